-- Nothing that was sent differs from what is kept, at the client or at the mirror, or from another of its
-- key.
use Rattle.std.proofs.Common.{◌≡◌, refl, sym, ◌∙◌, ap, subst, ℕ, Bool, true, false, List, [], ◌∷◌, ◌++◌, Option, Some, None}
use Rattle.std.specs.Prelude.{nat_lt, not, Contains, slice_get, bytes_eq, if◌then◌else◌}
use Rattle.std.proofs.lemmas.Bool.{eq-eqb}
use Rattle.fc_base.specs.declared.fault.Fault.{Fault}
use Rattle.fc_base.specs.declared.fault.Fault.TheVariants.{Old, Down, Misdirected, Conflict, TableFull}
use Rattle.fc_base.specs.Faults.{when}
use Rattle.fc_base.specs.declared.numbers.Key.{Key}
use Rattle.verify_state.specs.State.{State}
use Rattle.verify_state.specs.Same.{is_same}
use Rattle.verify_state.specs.Codes.{kind_code, verify_code}
use Rattle.messages.specs.declared.packet.PacketParts.{PacketParts}
use Rattle.messages.specs.declared.body.Body.{Body}
use Rattle.messages.specs.declared.body.Body.TheVariants as bodies
use Rattle.messages.specs.declared.node.Node.TheVariants.{Server}
use Rattle.client_core.specs.declared.note.ClientNote.{ClientNote}
use Rattle.verify_state.specs.StateTable.{kept_of}
use Rattle.verify_state.specs.TableLaws.{FoundHasItsKey}
use Rattle.client_core.specs.Refusals.{is_for_client, differs, lacks_room, faults_of_body}
use Rattle.client_core.specs.Words.{is_on, words_noted, peers}
use Rattle.mirror_core.specs.declared.note.MirrorNote.{MirrorNote}
use Rattle.mirror_core.specs.Requests.{asked_by, is_for_mirror}
use Rattle.mirror_core.specs.Refusals as mirror_refusals
use Rattle.mirror_core.specs.Words as mirrors
use Rattle.net_world.specs.Setup.{Setup}
use Rattle.net_world.specs.Trace.{Step, IsTrace, of_client, client_opening, opening_of, of_server, of_mirror, mirror_opening, sent_packets}
use Rattle.net_world.specs.Holders.{taken_of, carried_state}
use Rattle.net_world.specs.Passes.{SentStatesWereTaken, WasSent, CarriedStatesWereSent, KeptStatesWereSent}
use Rattle.net_world.specs.Passes.{CopiedStatesWereSent, NoPacketConflicts, NoCopyConflicts}
use Rattle.net_world.specs.Claims.{OfEachList, OfEachTrace}
use Rattle.net_world.specs.Headline.{OneTaking, StatePacketsAreEqual}
use Rattle.net_world.proofs.ListLemmas.{single, found_in}
use Rattle.net_world.proofs.PassLemmas.{Going, ends_of, was_taken}
use Rattle.net_world.proofs.TraceLemmas.{same_packet}
use Rattle.net_world.proofs.BegunLemmas.{begun}
use Rattle.net_world.proofs.SaidLemmas.{Sayings, SaysJobs, sent_by, state_says, same_count}

-- ---- two states of one key are the same

one_of : (a b : State) (xs : List State) → xs ≡ a ∷ [] → xs ≡ b ∷ [] → a ≡ b
one_of a b xs h g = cc

pub same_two : OfEachList OneTaking → (w : Setup) (t : List Step) (key : Key) (a b : State) → Contains (taken_of key t) a → Contains (taken_of key t) b → a ≡ b
same_two once w t key a b h g = one_of a b (taken_of key t) (single (taken_of key t) a (once w t key) h) (single (taken_of key t) b (once w t key) g)

-- The laws on which this rests.
pub record Conflicts : Type 0 where
  pub taken : OfEachList SentStatesWereTaken
  pub in_packets : OfEachTrace CarriedStatesWereSent
  pub at_client : OfEachTrace KeptStatesWereSent
  pub at_mirror : OfEachTrace CopiedStatesWereSent
  pub has : FoundHasItsKey
  pub once : OfEachList OneTaking

-- ---- a state is the same as itself

same_list : (xs : List ℕ) → bytes_eq xs xs ≡ true
same_list [] = refl
same_list (x ∷ xs) = rw (eq-eqb x x refl) (same_list xs)

is_same_self : (a : State) → is_same a a ≡ true
unfolding is_same
is_same_self a = rw (
  eq-eqb a.key.run a.key.run refl,
  eq-eqb a.key.server a.key.server refl,
  eq-eqb a.key.job a.key.job refl,
  eq-eqb (kind_code a.job.kind) (kind_code a.job.kind) refl,
  eq-eqb (verify_code a.job.verify)
      (verify_code a.job.verify) refl,
  eq-eqb a.job.pattern a.job.pattern refl,
  eq-eqb a.job.bs a.job.bs refl,
  eq-eqb a.job.blocks a.job.blocks refl,
  eq-eqb
      a.job.total a.job.total refl,
  eq-eqb a.job.seed a.job.seed refl,
  eq-eqb a.job.depth a.job.depth refl,
  eq-eqb a.job.window a.job.window refl,
  eq-eqb
      a.issued a.issued refl,
  same_list a.place,
  same_list a.counted,
) refl

-- ---- no conflict

past_the_first : (a b : Bool) (faults : List Fault) → slice_get (when a Down ++ (when b Misdirected ++ faults)) 0 ≡ Some Conflict
    → slice_get faults 0 ≡ Some Conflict
past_the_first true b faults h = absurd cc
past_the_first false true faults h = absurd cc
past_the_first false false faults h = h

conflict_differs : (d l : Bool) → slice_get (when d Conflict ++ when l TableFull) 0 ≡ Some Conflict → d ≡ true
conflict_differs true l h = refl
conflict_differs false true h = absurd cc
conflict_differs false false h = absurd cc

kept_differs : (x : State) (o : Option State) → differs x o ≡ true → (y : State) × (o ≡ Some y) × (is_same y x ≡ false)
kept_differs x None h = absurd cc
kept_differs x (Some y) h = (y, refl, not_true (is_same y x) h)
  where
    not_true : (b : Bool) → not b ≡ true → b ≡ false
    not_true true e = absurd cc
    not_true false e = refl

-- The body of a packet that is refused so, by these kept states.
record Differing (states : List State) (b : Body) : Type 0 where
  pub new : State
  pub old : State
  pub carries : carried_state b ≡ Some new
  pub found : kept_of new.key states ≡ Some old
  pub other : is_same old new ≡ false

differing_state : (states : List State) (b : Body) (x : State) (l : Bool) → carried_state b ≡ Some x
    → slice_get (when (differs x (kept_of x.key states)) Conflict ++ when l TableFull) 0 ≡ Some Conflict → Differing states b
differing_state states b x l c h =
    let k = kept_differs x (kept_of x.key states) (conflict_differs (differs x (kept_of x.key states)) l h) in
    record { new = x; old = k.0; carries = c; found = k.1; other = k.2 }

differing : (n : ClientNote) (b : Body) → slice_get (faults_of_body n b) 0 ≡ Some Conflict → Differing n.kept b
differing n (bodies.State jobs x) h = differing_state n.kept (bodies.State jobs x) x (lacks_room n.kept (kept_of x.key n.kept)) refl h
differing n (bodies.Copy x) h = differing_state n.kept (bodies.Copy x) x (lacks_room n.kept (kept_of x.key n.kept)) refl h
differing n _ h = absurd cc

-- Two states that were sent don't differ.
differs_not : Conflicts → (w : Setup) (t : List Step) (p : PacketParts) (states : List State) → IsTrace w t → Contains (sent_packets w t) p
    → ((state : State) → Contains states state → WasSent w t state) → Differing states p.body → ⊥
differs_not laws w t p states trace was sent_so d =
    let new = was_taken laws.taken w t d.new.key d.new refl (laws.in_packets w t trace p d.new was d.carries) in
    let old = was_taken laws.taken w t d.new.key d.old (laws.has d.new.key states d.old d.found) (sent_so d.old (found_in d.new.key states d.old d.found)) in
    let same : d.old ≡ d.new = same_two laws.once w t d.new.key d.old d.new old new in
    let yes : is_same d.old d.new ≡ true = subst (λ x. is_same d.old x ≡ true) same (is_same_self d.old) in
    let no = d.other in
    absurd cc

pub no_packet_conflicts : Conflicts → OfEachTrace NoPacketConflicts
no_packet_conflicts laws w t trace p was h =
    let note = words_noted (client_opening w) (of_client w t) in
    differs_not laws w t p note.kept trace was (laws.at_client w t trace)
    (differing note p.body (past_the_first (not (is_on (of_client w t))) (not (is_for_client (peers (client_opening w) (of_client w t)) p))
    (faults_of_body note p.body) h))

-- ---- the mirror

old_or_not : (b : Bool) → slice_get (when b Old) 0 ≡ Some Conflict → ⊥
old_or_not true h = absurd cc
old_or_not false h = absurd cc

asked_differs : (n : MirrorNote) (body : Body) → slice_get (mirror_refusals.faults_of n (asked_by body)) 0 ≡ Some Conflict → Differing n.kept body
asked_differs n (bodies.Copy x) h =
    let k = kept_differs x (kept_of x.key n.kept)
    (conflict_differs (differs x (kept_of x.key n.kept)) (lacks_room n.kept (kept_of x.key n.kept)) h) in
    record { new = x; old = k.0; carries = refl; found = k.1; other = k.2 }
asked_differs n (bodies.Fetch g) h = absurd (old_or_not (nat_lt g n.generation) h)
asked_differs n _ h = absurd cc

past_down : (a b : Bool) (n : MirrorNote) (body : Body)
    → slice_get (when a Down ++ mirror_refusals.faults_of n (if b then asked_by body else None)) 0 ≡ Some Conflict → Differing n.kept body
past_down true b n body h = absurd cc
past_down false true n body h = asked_differs n body h
past_down false false n body h = absurd cc

pub no_copy_conflicts : Conflicts → OfEachTrace NoCopyConflicts
no_copy_conflicts laws w t trace p was h =
    let note = mirrors.words_noted mirror_opening (of_mirror t) in
    differs_not laws w t p note.kept trace was (laws.at_mirror w t trace)
    (past_down (not (mirrors.is_on (of_mirror t))) (is_for_mirror p) note p.body h)

-- ---- State packets of one key are equal

pub state_packets_are_equal : Sayings → OfEachList SentStatesWereTaken → OfEachList OneTaking → OfEachList StatePacketsAreEqual
state_packets_are_equal laws taken once w t p q jobs more a b hp ip hq iq keys =
    let going : Going = record { sends = laws.sends; to_client = laws.to_client; to_peers = laws.to_peers; over = laws.over } in
    let fp = ends_of going w t p jobs a hp ip in
    let fq = ends_of going w t q more b hq iq in
    let server : a.key.server ≡ b.key.server = ap (λ (k : Key). k.server) keys in
    let same : a ≡ b = same_two once w t a.key a b (taken w t p jobs a hp ip) (subst (λ k. Contains (taken_of k t) b) (sym keys) (taken w t q more b hq iq)) in
    let s = b.key.server in
    let list = of_server s t in
    let says_p : SaysJobs (opening_of s) list a.key.run jobs = state_says laws s list p jobs a (sent_by laws w s t p (fp.0 ∙ ap Server server) hp) ip in
    let says_q : SaysJobs (opening_of s) list b.key.run more = state_says laws s list q more b (sent_by laws w s t q fq.0 hq) iq in
    let count : jobs ≡ more = same_count (opening_of s) a.key.run jobs list says_q.set
    (subst (λ r. begun (opening_of s) r list ≡ Some says_q.set) (sym (ap (λ (k : Key). k.run) keys)) says_q.is) says_p ∙ sym says_q.count in
    let body : p.body ≡ q.body = ip ∙ ap (λ x. bodies.State x a) count ∙ ap (bodies.State more) same ∙ sym iq in
    same_packet p q (fp.0 ∙ ap Server server ∙ sym fq.0) (fp.1 ∙ sym fq.1) body
