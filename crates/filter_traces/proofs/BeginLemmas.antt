-- Each fleet can begin over empty notes.
use Rattle.std.proofs.Common.{◌≡◌, refl, sym, ap, subst, inr, ℕ, arith, Bool, true, false, ◌&&◌, ◌==◌, List, [], ◌∷◌}
use Rattle.std.specs.Prelude.{if◌then◌else◌, not, ◌||◌}
use Rattle.std.proofs.lemmas.Bool.{eqb-true}
use Rattle.messages.specs.Ranges.{is_generation}
use Rattle.messages.specs.declared.frame.Frame.{Frame}
use Rattle.disk_model.specs.declared.save_outcome.SaveOutcome.TheVariants.{Saved}
use Rattle.server_core.specs.Hearing.{Restart as ServerRestart}
use Rattle.client_core.specs.Hearing.{FrameEntry as ClientEntry, Cut, Lose, Renew}
use Rattle.client_core.specs.Note.{Says, blank, new_note}
use Rattle.mirror_core.specs.History as mirror
use Rattle.mirror_core.specs.Note as mirror_note
use Rattle.net_world.specs.Setup.{Setup, without_mirror}
use Rattle.net_world.specs.Trace.{opening_of, client_opening}
use Rattle.net_world.specs.FrameLaws.{NodesHearTheirOwn}
use Rattle.filters.specs.ClientSteps.{noted}
use Rattle.filters.specs.ServerAt.{no_checks, noted as server_noted}
use Rattle.filters.specs.ServerLives.{next_boot}
use Rattle.filter_traces.specs.Fleets.{IsFresh}
use Rattle.filter_traces.specs.Begins.{first_note}
use Rattle.filter_traces.specs.Laws.{FleetsCanBegin}
use Rattle.filter_traces.proofs.TellLemmas.{Told, first_of, none_told, client_adds}

pub empty_mirror : mirror_note.Says [] mirror_note.blank
empty_mirror = record { note = record { generation = omega arith; count = omega arith; states = tt; keys = refl }; spelled = inr (refl, refl) }

-- A setup of so many servers that has a mirror.
abbrev mirrored : ℕ → Setup
mirrored n = record { servers = n; mirror = true }

-- What came to a client that is ready to begin, what was sent with that, and what its note says.
record Ready (w : Setup) (g : ℕ) : Type 0 where
  list : List ClientEntry
  sent : List Frame
  told : Told w (λ s. ServerRestart Saved ∷ []) list (mirror.Restart ∷ []) sent
  fresh : IsFresh list
  says : noted (client_opening w) list ≡ first_note w.mirror g

-- A client begins anew in its first generation, or loses its note and begins anew in another.
ready_with : NodesHearTheirOwn → (n g : ℕ) → is_generation g ≡ true → (b : Bool) → (1 == g) ≡ b → Ready (mirrored n) g
ready_with own n g can true same =
    let one : 1 ≡ g = eqb-true 1 g same in
    record { list = Renew 1 Saved ∷ []; sent = []; told = ([], none_told (mirrored n)); fresh = tt; says = ap new_note one }
ready_with own n g can false other =
    let w = mirrored n in
    let o = client_opening w in
    let a = client_adds own w (λ s. ServerRestart Saved ∷ []) (Renew 1 Saved ∷ []) (mirror.Restart ∷ []) [] Cut tt ([], none_told w) in
    let b = client_adds own w (λ s. ServerRestart Saved ∷ []) (Cut ∷ (Renew 1 Saved ∷ [])) (mirror.Restart ∷ []) _ Lose refl a in
    let c = client_adds own w (λ s. ServerRestart Saved ∷ []) (Lose ∷ (Cut ∷ (Renew 1 Saved ∷ []))) (mirror.Restart ∷ []) _ (Renew g Saved)
    (may g can other) b in
    record { list = Renew g Saved ∷ (Lose ∷ (Cut ∷ (Renew 1 Saved ∷ []))); sent = _; told = c; fresh = tt; says = renewed g can }
  where
    may : (g : ℕ) → is_generation g ≡ true → (1 == g) ≡ false → (is_generation g && not ((1 == g) || false)) ≡ true
    may g can other = rw (can, other) refl

    renewed : (g : ℕ) → is_generation g ≡ true → (if is_generation g && true then new_note g else blank) ≡ new_note g
    renewed g can = rw can refl

ready : NodesHearTheirOwn → (w : Setup) (g : ℕ) → is_generation g ≡ true → (b : Bool) → w.mirror ≡ b → Ready w g
ready own w g can true has =
    subst (λ (m : Bool). Ready (record { servers = w.servers; mirror = m }) g) (sym has) (ready_with own w.servers g can (1 == g) refl)
ready own w g can false alone =
    subst (λ (m : Bool). Ready (record { servers = w.servers; mirror = m }) g) (sym alone)
    (record { list = first_of (without_mirror w.servers) ∷ []; sent = []; told = ([], none_told (without_mirror w.servers)); fresh = tt; says = refl })

pub fleets_can_begin : NodesHearTheirOwn → FleetsCanBegin
fleets_can_begin own w g note copies few can says kept = (
  record {
    client = record { list = r.list; note = note };
    servers = λ s. record { list = ServerRestart Saved ∷ []; note = next_boot (server_noted (opening_of s) []); checks = no_checks };
    mirror = record { list = mirror.Restart ∷ []; note = copies };
    sent = r.sent;
  },
  record {
    begins = record {
      past = (r.told).0;
      legal = (r.told).1.legal;
      fits = record { few = few; steps = (r.told).1.fits };
      client = record {
        list_is = sym (r.told).1.client_is;
        fresh = r.fresh;
        says = subst (Says note) (sym r.says) says;
      };
      servers = λ s. record { older = []; list_is = sym ((r.told).1.servers_are s); fresh = refl; saved = refl; checks = refl };
      mirror = record { older = []; list_is = sym (r.told).1.mirror_is; fresh = refl; says = kept };
      sent = sym (r.told).1.sent_is;
    };
    client = refl;
    mirror = refl;
    servers = λ s. refl;
  },
)
  where
    r : Ready w g
    r = ready own w g can w.mirror refl
