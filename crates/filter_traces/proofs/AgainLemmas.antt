-- A fleet can begin over drawn numbers, and over servers that have served others.
use Rattle.std.proofs.Common.{◌≡◌, refl, sym, ◌∙◌, ap, subst, ℕ, zero, suc, ◌<◌, ◌≤◌, ◌^◌, arith, Bool, true, false, List, [], ◌∷◌, ◌++◌}
use Rattle.std.specs.Prelude.{nat_lt}
use Rattle.std.proofs.lemmas.Bool.Decides.{nat_tests}
use Rattle.job_file.specs.JobSet.{jobs_of}
use Rattle.disk_model.specs.declared.save_outcome.SaveOutcome.TheVariants.{Saved}
use Rattle.messages.specs.declared.frame.Frame.{Frame}
use Rattle.server_core.specs.Texts.{jobs_for}
use Rattle.server_core.specs.Hearing.{FrameEntry as ServerEntry, Restart as ServerRestart}
use Rattle.client_core.specs.Inputs as inputs
use Rattle.client_core.specs.declared.note.ClientNote.{ClientNote}
use Rattle.client_core.specs.Hearing.{FrameEntry as ClientEntry, Met as ClientMet, Restart as ClientRestart, packets_heard}
use Rattle.client_core.specs.FrameAnswers.{frames as client_frames}
use Rattle.client_core.specs.Note.{IsNoted, Says, SaysWhatIsWritten, spelling}
use Rattle.mirror_core.specs.History as mirror
use Rattle.net_world.specs.Setup.{without_mirror}
use Rattle.net_world.specs.Trace.{opening_of}
use Rattle.net_world.specs.FrameLaws.{NodesHearTheirOwn}
use Rattle.net_world.specs.Examples.{writing_text}
use Rattle.filters.specs.ServerAt.{no_checks, noted as server_noted}
use Rattle.filters.specs.ServerLives.{next_boot}
use Rattle.filter_traces.specs.Again.{CanBeDrawn, drawn}
use Rattle.filter_traces.specs.Laws.{FleetsCanBeginAgain}
use Rattle.filter_traces.proofs.BeginLemmas.{empty_mirror}
use Rattle.filter_traces.proofs.NumberLemmas.{IsSo, one_attempt}
use Rattle.filter_traces.proofs.ServedLemmas.{IsText, opening}
use Rattle.filter_traces.proofs.ServedTraceLemmas.{Served, all_served}
use Rattle.filter_traces.proofs.TellLemmas.{Told, client_adds}

-- A job of one kibibyte: each run has this text.
one_text : IsText writing_text (jobs_of writing_text)
unfolding jobs_for
one_text = record { are = refl; fits = refl; whole = refl }

-- The client asked for so many checks.
record Asked (n runs attempts : ℕ) (servers : ℕ → List ServerEntry) : Type 0 where
  list : List ClientEntry
  sent : List Frame
  told : Told (without_mirror n) servers list (mirror.Restart ∷ []) sent
  so : IsSo n (packets_heard (opening n) list) runs attempts

asks_more : NodesHearTheirOwn → (n runs : ℕ) (servers : ℕ → List ServerEntry) → 1 ≤ runs → Asked n runs 0 servers
    → (attempts : ℕ) → attempts < 2 ^ 64 → Asked n runs attempts servers
asks_more own n runs servers some first zero fits = first
asks_more own n runs servers some first (suc attempts) fits =
    let before = asks_more own n runs servers some first attempts (omega (arith, fits)) in
    let c = ClientMet (inputs.Verify 1 []) Saved in
    record {
      list = c ∷ before.list;
      sent = before.sent ++ client_frames (opening n) before.list c;
      told = client_adds own (without_mirror n) servers before.list (mirror.Restart ∷ []) before.sent c tt before.told;
      so = one_attempt n runs attempts (packets_heard (opening n) before.list) before.so some (omega (arith, fits));
    }

-- The list behind its last entry.
behind : List ServerEntry → List ServerEntry
behind [] = []
behind (e ∷ past) = past

fresh_so : (list older : List ServerEntry) → list ≡ ServerRestart Saved ∷ older → list ≡ ServerRestart Saved ∷ behind list
unfolding behind
fresh_so list older is = rw is refl

numbers_noted : (runs attempts : ℕ) → CanBeDrawn runs attempts → IsNoted (drawn runs attempts)
numbers_noted runs attempts can =
    record { generation = omega arith; runs = can.runs_fit; attempts = can.attempts_fit; count = omega arith; states = tt; keys = refl }

pub fleets_can_begin_again : NodesHearTheirOwn → SaysWhatIsWritten → FleetsCanBeginAgain
unfolding behind
fleets_can_begin_again own written n runs attempts said few can older = (
  record {
    client = record { list = ClientRestart false ∷ asked.list; note = spelling (drawn runs attempts) };
    servers = λ s. record {
      list = served.servers s;
      note = next_boot (server_noted (opening_of s) (behind (served.servers s)));
      checks = no_checks;
    };
    mirror = record { list = mirror.Restart ∷ []; note = [] };
    sent = asked.sent ++ last;
  },
  record {
    begins = record {
      past = told.0;
      legal = told.1.legal;
      fits = record { few = few; steps = told.1.fits };
      client = record {
        list_is = sym told.1.client_is;
        fresh = tt;
        says = subst (λ (m : ClientNote). Says (spelling (drawn runs attempts)) m) (sym asked.so.says) says;
      };
      servers = λ s. record {
        older = behind (served.servers s);
        list_is = sym (told.1.servers_are s);
        fresh = is_fresh s (nat_lt s n) refl;
        saved = refl;
        checks = refl;
      };
      mirror = record { older = []; list_is = sym told.1.mirror_is; fresh = refl; says = empty_mirror };
      sent = sym told.1.sent_is;
    };
    client = says;
    servers = λ s l.
        let serves = served.old s l in
        ap (λ (list : List ServerEntry). next_boot (server_noted (opening_of s) (behind list))) serves.list_is ∙ ap next_boot serves.says;
  },
)
  where
    served : Served writing_text n runs said n
    served = all_served own writing_text (jobs_of writing_text) one_text n runs said can.runs_fit few older n (omega arith)

    asked : Asked n runs attempts served.servers
    asked = asks_more own n runs served.servers can.begun
        (record {
          list = served.client;
          sent = served.sent;
          told = served.told;
          so = record { on = served.begun.on; alone = served.begun.alone; says = served.begun.says };
        }) attempts can.attempts_fit

    last : List Frame
    last = client_frames (opening n) asked.list (ClientRestart false)

    told : Told (without_mirror n) served.servers (ClientRestart false ∷ asked.list) (mirror.Restart ∷ []) (asked.sent ++ last)
    told = client_adds own (without_mirror n) served.servers asked.list (mirror.Restart ∷ []) asked.sent (ClientRestart false) (refl, refl) asked.told

    says : Says (spelling (drawn runs attempts)) (drawn runs attempts)
    says = written (drawn runs attempts) (numbers_noted runs attempts can)

    is_fresh : (s : ℕ) (b : Bool) → nat_lt s n ≡ b → served.servers s ≡ ServerRestart Saved ∷ behind (served.servers s)
    is_fresh s true e =
        let serves = served.old s (grind (arith, nat_tests, e)) in
        fresh_so (served.servers s) serves.older serves.list_is
    is_fresh s false e = fresh_so (served.servers s) [] (served.new s (grind (arith, nat_tests, e)))
