-- A world opens.
use Rattle.std.proofs.Common.{Bool, true, false, ◌≡◌, refl, sym, ◌∙◌, ap, subst, inl, inr, ◌⊎◌, ℕ, zero}
use Rattle.std.proofs.Common.{suc, ◌+◌, ◌*◌, ◌≤◌, arith, List, [], ◌∷◌, ◌++◌, length, Option, Some, None}
use Rattle.std.specs.Prelude.{slice_get, nat_le, nat_lt, map, ◌&&◌}
use Rattle.std.proofs.lemmas.Bool.{and_parts}
use Rattle.std.proofs.lemmas.Bool.Decides.{nat_tests}
use Rattle.std.proofs.lemmas.List.{length-append}
use Rattle.fc_base.specs.declared.limits.TheConstants.{MAX_JOBS, MAX_SERVERS}
use Rattle.disk_model.specs.MemDisk.{file_of}
use Rattle.disk_model.specs.declared.mem_disk.MemDisk.{MemDisk}
use Rattle.mirror_core.specs.History as mirror
use Rattle.messages.specs.Hearing.{Happens}
use Rattle.messages.specs.Ranges.{is_generation}
use Rattle.net_world.specs.declared.config.Config.{Config}
use Rattle.net_world.specs.MirrorNodes.{MirrorNode}
use Rattle.net_world.specs.declared.mirror_node.MirrorSlot.{MirrorSlot}
use Rattle.net_world.specs.declared.world.World.{World}
use Rattle.net_world.specs.Setup.{Setup, setup_of}
use Rattle.net_world.specs.Trace.{client_opening, first_entry}
use Rattle.net_world.specs.Frames.{frames_sent, client_entries, client_frame_entry}
use Rattle.net_world.specs.World.{frames}
use Rattle.net_world.specs.Sending.{sent_in}
use Rattle.net_world.specs.ClientNodes as clients
use Rattle.net_world.specs.Opened.{AreOpened, AreBlank, OpensMirror, HasOpened, blank}
use Rattle.net_world.specs.ClientNodes.{handed_in}
use Rattle.net_world.specs.Stands.{IsMirror, IsGreatest, StandsFor}
use Rattle.net_world.proofs.ListLemmas.{same_some}

-- One more at the end of a list.
pushed : {X : Type 0} (xs : List X) (x y : X) (i : ℕ) → slice_get (xs ++ x ∷ []) i ≡ Some y → (slice_get xs i ≡ Some y) ⊎ ((i ≡ length xs) × (x ≡ y))
pushed [] x y zero h = inr (refl, same_some x y h)
pushed [] x y (suc i) h = absurd (none_some h)
  where
    none_some : None ≡ Some y → ⊥
    none_some e = cc
pushed (z ∷ zs) x y zero h = inl h
pushed (z ∷ zs) x y (suc i) h = elim (pushed zs x y i h) [ inl e ↦ inl e | inr e ↦ inr (ap suc e.0, e.1) ]

more : {X : Type 0} (xs : List X) (x : X) (k : ℕ) → length xs ≡ k → length (xs ++ x ∷ []) ≡ k + 1
more xs x k h = omega (arith, length-append xs (x ∷ []), h)

pub one_blank : (k : ℕ) (disks now : List MemDisk) (disk : MemDisk) → AreBlank k disks → file_of disk ≡ blank → now ≡ disks ++ disk ∷ [] → AreBlank (k + 1) now
one_blank k disks now disk all one is =
    subst (AreBlank (k + 1)) (sym is)
    (record {
      number = more disks disk k all.number;
      each = λ i x h. elim (pushed disks disk x i h) [ inl e ↦ all.each i x e | inr e ↦ sym (ap file_of e.1) ∙ one ];
    })

none_sent : (w : Setup) → frames w [] ≡ []
unfolding frames_sent
none_sent w = refl

mirror_opens : (config : Config) (m : MirrorSlot) → HasOpened config m → IsMirror (setup_of config) (mirror.Restart ∷ []) m.node
mirror_opens config m h = by_word config.mirror refl m.node m.greatest h
  where
    by_word : (b : Bool) → config.mirror ≡ b → (node : Option MirrorNode) (g : ℕ) → OpensMirror b node g → IsMirror (setup_of config) (mirror.Restart ∷ []) node
    by_word false e None g h = e
    by_word true e (Some node) g h = (e, h.0)
    by_word false e (Some node) g h = absurd h
    by_word true e None g h = absurd h

above_none : (g : ℕ) → is_generation g ≡ true → true ≡ nat_lt 0 g
above_none g h = let p = and_parts (nat_le 1 g) _ h in grind (arith, p.0, nat_tests)

greatest_opens : (config : Config) (m : MirrorSlot) → HasOpened config m → IsGreatest m.greatest (handed_in (client_entries (setup_of config) []))
greatest_opens config m h = by_word config.mirror m.node m.greatest h
  where
    by_word : (b : Bool) (node : Option MirrorNode) (g : ℕ) → OpensMirror b node g
        → IsGreatest g (handed_in (map client_frame_entry (Happens (first_entry b) ∷ [])))
    by_word false None g h = subst (λ x. IsGreatest x []) (sym h) above_none
    by_word true (Some node) g h = subst (λ x. IsGreatest x (1 ∷ [])) (sym h.1) (λ k fits. above_one (nat_lt 1 k))
      where
        above_one : (b : Bool) → (b && true) ≡ b
        above_one true = refl
        above_one false = refl
    by_word false (Some node) g h = absurd h
    by_word true None g h = absurd h

pub opened : (config : Config) (now : World) → 1 ≤ config.servers → config.servers ≤ MAX_SERVERS → AreOpened config.servers now.servers.items
    → clients.Stands (client_opening (setup_of config)) (client_entries (setup_of config) []) now.client → HasOpened config now.mirror
    → AreBlank (MAX_JOBS * config.servers) now.files.items → sent_in now.sent ≡ [] → StandsFor (setup_of config) [] now
opened config now some few nodes client_is mirrored files sent = record {
  some = some;
  few = few;
  number = nodes.number;
  sent_is = sent ∙ sym (none_sent (setup_of config));
  servers_are = nodes.each;
  client_is = client_is;
  mirror_is = mirror_opens config now.mirror mirrored;
  greatest_is = greatest_opens config now.mirror mirrored;
  files = files.number;
  files_are = λ s j disk l at. files.each (MAX_JOBS * s + j) disk at;
}
