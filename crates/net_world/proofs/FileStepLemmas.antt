-- One file of a world has changed.
use Rattle.std.proofs.Common.{◌≡◌, refl, sym, ◌∙◌, ap, subst, ℕ, ◌+◌, ◌*◌, ◌<◌, ◌≤◌, arith, Bool}
use Rattle.std.proofs.Common.{true, false, ◌&&◌, ◌==◌, List, ◌∷◌, length, Some, None, Ok}
use Rattle.std.specs.Prelude.{if◌then◌else◌, map, nat_lt, set, slice_get, Vec}
use Rattle.std.specs.declared.alloc.Global.{Global}
use Rattle.std.proofs.Math.ListN.{length-set}
use Rattle.std.proofs.lemmas.Bool.{eqb-true, eq-eqb, and_parts, ltb-true, ltb-false, lt-ltb, le-ltb}
use Rattle.fc_base.specs.declared.limits.TheConstants.{MAX_JOBS}
use Rattle.disk_model.specs.File.{File, put}
use Rattle.disk_model.specs.MemDisk.{file_of}
use Rattle.disk_model.specs.declared.mem_disk.MemDisk.{MemDisk}
use Rattle.messages.specs.FrameBytes.{frame_spelling}
use Rattle.net_world.specs.declared.mirror_node.MirrorSlot.{MirrorSlot}
use Rattle.net_world.specs.ServerNodes.{ServerNode}
use Rattle.net_world.specs.declared.told.Told.{Told}
use Rattle.net_world.specs.declared.world.World.{World}
use Rattle.net_world.specs.Setup.{Setup}
use Rattle.net_world.specs.Happenings.{Happening}
use Rattle.net_world.specs.Trace.{opening_of, client_opening}
use Rattle.net_world.specs.Frames.{frames_sent, server_entries, client_entries, of_mirror}
use Rattle.net_world.specs.Changes.{Change, Landed, Rotted, steps, trace}
use Rattle.net_world.specs.Contents.{content, with_write, is_file}
use Rattle.std.specs.Option.{option_or}
use Rattle.fc_base.specs.declared.fault.Fault.TheVariants.{NoServer, NoWrite}
use Rattle.net_world.specs.Barred.{unless, no_file}
use Rattle.net_world.specs.Writes.{open_at}
use Rattle.net_world.specs.Outcomes.{Does, outcome}
use Rattle.net_world.specs.World.{told_by}
use Rattle.net_world.specs.Telling.{plainly_told}
use Rattle.net_world.specs.Sending.{sent_in}
use Rattle.net_world.specs.ServerNodes as servers
use Rattle.net_world.specs.ClientNodes as clients
use Rattle.net_world.specs.ClientNodes.{handed_in}
use Rattle.net_world.specs.Stands.{IsMirror, IsGreatest, StandsFor, file}
use Rattle.net_world.specs.Ends.{Ends}
use Rattle.net_world.proofs.SlotLemmas.{is_set, set_there}
use Rattle.net_world.proofs.ServeLemmas.{first_is}
use Rattle.net_world.proofs.EndsLemmas.{does}

-- A file with this content, in a disk that is never off.
abbrev pub with_content : (ℕ → List ℕ) → File
with_content held = record { content = held; power = Some 0; failures = 0 }

-- The disk of file j of server s holds this; all else is as it was.
pub record HasWritten (s j : ℕ) (disk : MemDisk) (old new : World) : Type 0 where
  pub slot : j < MAX_JOBS
  pub there : MAX_JOBS * s + j < length old.files.items
  pub place : ℕ
  pub place_is : place ≡ MAX_JOBS * s + j
  pub set_is : new.files.items ≡ set old.files.items place disk
  pub sent_is : sent_in new.sent ≡ sent_in old.sent
  pub client_is : new.client ≡ old.client
  pub servers_are : new.servers ≡ old.servers
  pub mirror_is : new.mirror ≡ old.mirror

-- A change of this file alone.
pub record IsOfFile (w : Setup) (past : List Change) (s j : ℕ) (change : Change) (held : ℕ → List ℕ) : Type 0 where
  pub steps_are : steps (change ∷ past) ≡ steps past
  pub content_is : (t i : ℕ) → content w (change ∷ past) t i ≡ (if is_file s j t i then held else content w past t i)

same_file : (s j t i : ℕ) → s ≡ t → j ≡ i → is_file s j t i ≡ true
same_file s j t i h k = rw (eq-eqb s t h, eq-eqb j i k) refl

file_by : (w : Setup) (past : List Change) (s j : ℕ) (change : Change) (held : ℕ → List ℕ) → IsOfFile w past s j change held → (t i : ℕ) (b : Bool)
    → is_file s j t i ≡ b → content w (change ∷ past) t i ≡ (if b then held else content w past t i)
file_by w past s j change held f t i b h = f.content_is t i ∙ ap (λ x. if x then held else content w past t i) h

same_place : (s j t i : ℕ) → j < MAX_JOBS → i < MAX_JOBS → MAX_JOBS * s + j ≡ MAX_JOBS * t + i → (s ≡ t) × (j ≡ i)
same_place s j t i l m h = (omega (arith, h, l, m), omega (arith, h, l, m))

each_file : (w : Setup) (past : List Change) (s j : ℕ) (change : Change) (held : ℕ → List ℕ) (disk : MemDisk) (old new : World) → StandsFor w past old
    → HasWritten s j disk old new → IsOfFile w past s j change held
    → file_of disk ≡ with_content held → (t i : ℕ) (x : MemDisk) → i < MAX_JOBS → slice_get new.files.items (MAX_JOBS * t + i) ≡ Some x → (b : Bool)
    → is_file s j t i ≡ b → file_of x ≡ file w (change ∷ past) t i
each_file w past s j change held disk old new stands wrote f is t i x l at true h =
    let p = and_parts (s == t) (j == i) h in
    let e : MAX_JOBS * t + i ≡ MAX_JOBS * s + j = omega (arith, eqb-true s t p.0, eqb-true j i p.1) in
    let here : slice_get (set old.files.items (MAX_JOBS * s + j) disk) (MAX_JOBS * s + j) ≡ Some x =
    ap (λ k. slice_get (set old.files.items k disk) (MAX_JOBS * s + j)) (sym wrote.place_is) ∙ ap (λ xs. slice_get xs (MAX_JOBS * s + j)) (sym wrote.set_is)
    ∙ ap (slice_get new.files.items) (sym e) ∙ at in
    sym (ap file_of (is_set old.files.items (MAX_JOBS * s + j) disk x wrote.there here)) ∙ is
    ∙ ap with_content (sym (file_by w past s j change held f t i true h))
each_file w past s j change held disk old new stands wrote f is t i x l at false h =
    let ne : MAX_JOBS * s + j ≡ MAX_JOBS * t + i → ⊥ = λ e. let p = same_place s j t i wrote.slot l e in true_false (sym (same_file s j t i p.0 p.1) ∙ h) in
    let was : slice_get old.files.items (MAX_JOBS * t + i) ≡ Some x =
    sym (set_there old.files.items (MAX_JOBS * s + j) (MAX_JOBS * t + i) disk ne)
    ∙ ap (λ k. slice_get (set old.files.items k disk) (MAX_JOBS * t + i)) (sym wrote.place_is)
    ∙ ap (λ xs. slice_get xs (MAX_JOBS * t + i)) (sym wrote.set_is) ∙ at in
    stands.files_are t i x l was ∙ ap with_content (sym (file_by w past s j change held f t i false h))
  where
    true_false : true ≡ false → ⊥
    true_false e = cc

-- The world stands for the change.
pub file_changed : (w : Setup) (past : List Change) (s j : ℕ) (change : Change) (held : ℕ → List ℕ) (disk : MemDisk) (old new : World) → StandsFor w past old
    → HasWritten s j disk old new → IsOfFile w past s j change held
    → file_of disk ≡ with_content held → StandsFor w (change ∷ past) new
file_changed w past s j change held disk old new stands wrote f is = record {
  some = stands.some;
  few = stands.few;
  number = ap (λ (v : Vec ServerNode Global). length v.items) wrote.servers_are ∙ stands.number;
  sent_is = wrote.sent_is ∙ stands.sent_is ∙ ap (λ t. map frame_spelling (frames_sent w t)) (sym f.steps_are);
  servers_are = λ r node at.
      subst (λ t. servers.Stands (opening_of r) (server_entries r t) node) (sym f.steps_are)
      (stands.servers_are r node (ap (λ (v : Vec ServerNode Global). slice_get v.items r) (sym wrote.servers_are) ∙ at));
  client_is =
      subst (λ t. clients.Stands (client_opening w) (client_entries w t) new.client) (sym f.steps_are)
      (subst (λ x. clients.Stands (client_opening w) (client_entries w (steps past)) x) (sym wrote.client_is) stands.client_is);
  mirror_is =
      subst (λ t. IsMirror w (of_mirror t) new.mirror.node) (sym f.steps_are)
      (subst (λ (m : MirrorSlot). IsMirror w (of_mirror (steps past)) m.node) (sym wrote.mirror_is) stands.mirror_is);
  greatest_is =
      subst (λ t. IsGreatest new.mirror.greatest (handed_in (client_entries w t))) (sym f.steps_are)
      (subst (λ (m : MirrorSlot). IsGreatest m.greatest (handed_in (client_entries w (steps past)))) (sym wrote.mirror_is) stands.greatest_is);
  files = ap (λ (xs : List MemDisk). length xs) wrote.set_is ∙ length-set old.files.items wrote.place disk ∙ stands.files;
  files_are = λ t i x l at. each_file w past s j change held disk old new stands wrote f is t i x l at (is_file s j t i) refl;
}

-- ---- what is told

pub quiet_ends : (w : Setup) (past : List Change) (s j : ℕ) (e : Happening) (change : Change) (held : ℕ → List ℕ) (disk : MemDisk) (first : ℕ) (t : Told)
    (old new : World) → StandsFor w past old → HasWritten s j disk old new → IsOfFile w past s j change held
    → file_of disk ≡ with_content held → outcome w past e ≡ Does change
    → told_by w past e (Does change) ≡ Ok (plainly_told (length (frames_sent w (steps past)))) → first ≡ length (sent_in old.sent) → t ≡ plainly_told first
    → Ends w past e new (Ok t)
quiet_ends w past s j e change held disk first t old new stands wrote f is comes told first_ok tells =
    does w past e change t new comes (told ∙ ap (λ k. Ok (plainly_told k)) (sym (first_ok ∙ first_is w past old stands)) ∙ ap (λ x. Ok x) (sym tells))
    (file_changed w past s j change held disk old new stands wrote f is)

-- ---- a sector that rots, and sectors that land

pub rots : (w : Setup) (past : List Change) (s j sector : ℕ) (bytes : List ℕ)
    → IsOfFile w past s j (Rotted s j sector bytes) (put sector bytes (content w past s j))
rots w past s j sector bytes = record { steps_are = refl; content_is = λ t i. by_file t i (is_file s j t i) refl }
  where
    same : (t i : ℕ) → is_file s j t i ≡ true → put sector bytes (content w past t i) ≡ put sector bytes (content w past s j)
    same t i h = let p = and_parts (s == t) (j == i) h in
        ap (λ c. put sector bytes c) (sym (ap (λ k. content w past k j) (eqb-true s t p.0) ∙ ap (content w past t) (eqb-true j i p.1)))

    by_file : (t i : ℕ) (b : Bool) → is_file s j t i ≡ b
        → (if b then put sector bytes (content w past t i) else content w past t i) ≡ (if b then put sector bytes (content w past s j) else content w past t i)
    by_file t i true h = same t i h
    by_file t i false h = refl

pub lands : (w : Setup) (past : List Change) (s j k mask : ℕ)
    → IsOfFile w past s j (Landed s j k mask) (with_write k mask (open_at (trace w past) s j k) (content w past s j))
lands w past s j k mask = record { steps_are = refl; content_is = λ t i. by_file t i (is_file s j t i) refl }
  where
    same : (t i : ℕ) → is_file s j t i ≡ true → with_write k mask (open_at (trace w past) s j k) (content w past t i)
        ≡ with_write k mask (open_at (trace w past) s j k) (content w past s j)
    same t i h = let p = and_parts (s == t) (j == i) h in
        ap (λ c. with_write k mask (open_at (trace w past) s j k) c)
        (sym (ap (λ r. content w past r j) (eqb-true s t p.0) ∙ ap (content w past t) (eqb-true j i p.1)))

    by_file : (t i : ℕ) (b : Bool) → is_file s j t i ≡ b
        → (if b then with_write k mask (open_at (trace w past) s j k) (content w past t i) else content w past t i)
        ≡ (if b then with_write k mask (open_at (trace w past) s j k) (content w past s j) else content w past t i)
    by_file t i true h = same t i h
    by_file t i false h = refl

-- ---- where there is no such file

pub has_slot : (s j len : ℕ) → (nat_lt j MAX_JOBS && nat_lt (MAX_JOBS * s + j) len) ≡ true → (j < MAX_JOBS) × (MAX_JOBS * s + j < len)
has_slot s j len h = let p = and_parts (nat_lt j MAX_JOBS) (nat_lt (MAX_JOBS * s + j) len) h in (ltb-true j MAX_JOBS p.0, ltb-true (MAX_JOBS * s + j) len p.1)

pub no_slot : (w : Setup) (s j len : ℕ) → (nat_lt j MAX_JOBS && nat_lt (MAX_JOBS * s + j) len) ≡ false → len ≡ MAX_JOBS * w.servers → s < w.servers
    → MAX_JOBS ≤ j
no_slot w s j len h e l = by_test (nat_lt j MAX_JOBS) refl
  where
    by_test : (b : Bool) → nat_lt j MAX_JOBS ≡ b → MAX_JOBS ≤ j
    by_test false f = ltb-false j MAX_JOBS f
    by_test true f =
        absurd (omega (arith, ltb-false (MAX_JOBS * s + j) len (ap (λ x. x && nat_lt (MAX_JOBS * s + j) len) (sym f) ∙ h), e, l, ltb-true j MAX_JOBS f))

pub rot_free : (w : Setup) (s j : ℕ) → s < w.servers → j < MAX_JOBS → no_file w s j ≡ None
rot_free w s j l m = both (nat_lt s w.servers) (nat_lt j MAX_JOBS) (lt-ltb s w.servers l) (lt-ltb j MAX_JOBS m)
  where
    both : (a b : Bool) → a ≡ true → b ≡ true → option_or (unless a NoServer) (unless b NoWrite) ≡ None
    both a b h k = rw (h, k) refl

pub rot_none : (w : Setup) (s j : ℕ) → w.servers ≤ s → no_file w s j ≡ Some NoServer
rot_none w s j h = first (nat_lt s w.servers) (nat_lt j MAX_JOBS) (le-ltb s w.servers h)
  where
    first : (a b : Bool) → a ≡ false → option_or (unless a NoServer) (unless b NoWrite) ≡ Some NoServer
    first a b h = rw h refl

pub rot_past : (w : Setup) (s j : ℕ) → s < w.servers → MAX_JOBS ≤ j → no_file w s j ≡ Some NoWrite
rot_past w s j l h = second (nat_lt s w.servers) (nat_lt j MAX_JOBS) (lt-ltb s w.servers l) (le-ltb j MAX_JOBS h)
  where
    second : (a b : Bool) → a ≡ true → b ≡ false → option_or (unless a NoServer) (unless b NoWrite) ≡ Some NoWrite
    second a b h k = rw (h, k) refl

-- ---- the file holds what it held

same_by : (w : Setup) (past : List Change) (s j : ℕ) (disk : MemDisk) (old new : World) → StandsFor w past old → HasWritten s j disk old new
    → file_of disk ≡ file w past s j
    → (t i : ℕ) (x : MemDisk) → i < MAX_JOBS → slice_get new.files.items (MAX_JOBS * t + i) ≡ Some x → (b : Bool) → is_file s j t i ≡ b
    → file_of x ≡ file w past t i
same_by w past s j disk old new stands wrote is t i x l at true h =
    let p = and_parts (s == t) (j == i) h in
    let st = eqb-true s t p.0 in
    let ji = eqb-true j i p.1 in
    let e : MAX_JOBS * t + i ≡ MAX_JOBS * s + j = omega (arith, st, ji) in
    let here : slice_get (set old.files.items (MAX_JOBS * s + j) disk) (MAX_JOBS * s + j) ≡ Some x =
    ap (λ k. slice_get (set old.files.items k disk) (MAX_JOBS * s + j)) (sym wrote.place_is) ∙ ap (λ xs. slice_get xs (MAX_JOBS * s + j)) (sym wrote.set_is)
    ∙ ap (slice_get new.files.items) (sym e) ∙ at in
    sym (ap file_of (is_set old.files.items (MAX_JOBS * s + j) disk x wrote.there here)) ∙ is ∙ ap (λ r. file w past r j) st ∙ ap (file w past t) ji
same_by w past s j disk old new stands wrote is t i x l at false h =
    let ne : MAX_JOBS * s + j ≡ MAX_JOBS * t + i → ⊥ = λ e. let p = same_place s j t i wrote.slot l e in true_false (sym (same_file s j t i p.0 p.1) ∙ h) in
    let was : slice_get old.files.items (MAX_JOBS * t + i) ≡ Some x =
    sym (set_there old.files.items (MAX_JOBS * s + j) (MAX_JOBS * t + i) disk ne)
    ∙ ap (λ k. slice_get (set old.files.items k disk) (MAX_JOBS * t + i)) (sym wrote.place_is)
    ∙ ap (λ xs. slice_get xs (MAX_JOBS * t + i)) (sym wrote.set_is) ∙ at in
    stands.files_are t i x l was
  where
    true_false : true ≡ false → ⊥
    true_false e = cc

pub file_kept : (w : Setup) (past : List Change) (s j : ℕ) (disk : MemDisk) (old new : World) → StandsFor w past old → HasWritten s j disk old new
    → file_of disk ≡ file w past s j → StandsFor w past new
file_kept w past s j disk old new stands wrote is = record {
  some = stands.some;
  few = stands.few;
  number = ap (λ (v : Vec ServerNode Global). length v.items) wrote.servers_are ∙ stands.number;
  sent_is = wrote.sent_is ∙ stands.sent_is;
  servers_are = λ r node at. stands.servers_are r node (ap (λ (v : Vec ServerNode Global). slice_get v.items r) (sym wrote.servers_are) ∙ at);
  client_is = subst (λ x. clients.Stands (client_opening w) (client_entries w (steps past)) x) (sym wrote.client_is) stands.client_is;
  mirror_is = subst (λ (m : MirrorSlot). IsMirror w (of_mirror (steps past)) m.node) (sym wrote.mirror_is) stands.mirror_is;
  greatest_is = subst (λ (m : MirrorSlot). IsGreatest m.greatest (handed_in (client_entries w (steps past)))) (sym wrote.mirror_is) stands.greatest_is;
  files = ap (λ (xs : List MemDisk). length xs) wrote.set_is ∙ length-set old.files.items wrote.place disk ∙ stands.files;
  files_are = λ t i x l at. same_by w past s j disk old new stands wrote is t i x l at (is_file s j t i) refl;
}
