-- A notion that survives holds when a write has landed.
use Rattle.std.proofs.Common.{◌≡◌, refl, sym, ◌∙◌, ap, subst, ℕ, true, List, Some}
use Rattle.std.specs.Prelude.{slice_get, Contains}
use Rattle.fc_base.specs.Counted.{has}
use Rattle.fc_base.specs.declared.numbers.Key.{Key}
use Rattle.fc_base.specs.declared.record.JobParts.{JobParts}
use Rattle.job_file.specs.declared.job.Job.{Job}
use Rattle.write_order.specs.Blocks.{block_of}
use Rattle.write_order.specs.Stamps.{bytes_of}
use Rattle.verify_state.specs.State.{State}
use Rattle.engine.specs.History as window
use Rattle.server_core.specs.History.{Opening, Entry}
use Rattle.server_core.specs.Run.{Work, origin_of, history}
use Rattle.server_core.specs.Words.{last_run, work}
use Rattle.server_core.specs.Taken.{takings}
use Rattle.net_world.specs.Contents.{with_block}
use Rattle.net_world.proofs.GroundLemmas.{Ground, job_within, job_legal}
use Rattle.net_world.proofs.LinkLemmas.{LinkOf, Linked, linked}
use Rattle.net_world.proofs.NotionLemmas.{Notion, Survives, Of, OfState, Kept}
use Rattle.net_world.proofs.ListLemmas.{some_is}

-- An open write of a job lands in its file.
pub record LandsOne (May : ℕ → JobParts → Type 0) (o : Opening) (list : List Entry) (j : ℕ) (old new : ℕ → List ℕ) : Type 0 where
  pub now : Work
  pub job : Job
  pub write : ℕ
  pub mask : ℕ
  pub works : work o list ≡ Some now
  pub has_job : slice_get now.jobs j ≡ Some job
  pub is_open : has (window.open_writes (history (origin_of now j job) now.since)) write ≡ true
  pub may : May mask job.rec
  pub content : new ≡ with_block mask (block_of job.rec write) (bytes_of (origin_of now j job).key job.rec write) old

-- What a landing does to the file of job j: nothing, or an open write lands.
pub data Lands (May : ℕ → JobParts → Type 0) (o : Opening) (list : List Entry) (j : ℕ) (old new : ℕ → List ℕ) : Type 0 where
  Same : new ≡ old → Lands May o list j old new
  One : LandsOne May o list j old new → Lands May o list j old new

-- The present run after an open write of it has landed.
run_lands : {P : Notion} {May : ℕ → JobParts → Type 0} {On : ℕ → Type 0} → Ground → Survives On May P → (o : Opening) (list : List Entry) (j : ℕ) (old new : ℕ → List ℕ)
    → (l : LandsOne May o list j old new)
    → Of P old (origin_of l.now j l.job) (history (origin_of l.now j l.job) l.now.since)
    → Of P new (origin_of l.now j l.job) (history (origin_of l.now j l.job) l.now.since)
run_lands {P} laws s o list j old new l p =
    let origin = origin_of l.now j l.job in
    let h = history origin l.now.since in
    subst (λ held. Of P held origin h) (sym l.content)
    (s.lands old origin.key l.job.rec h l.write l.mask (window.issued h) (window.is_done h) (job_legal laws o list l.now l.works j l.job l.has_job)
    (job_within laws o list l.now l.works j l.job l.has_job) l.is_open l.may refl (λ k d. d) p)

works_landed : {P : Notion} {May : ℕ → JobParts → Type 0} {On : ℕ → Type 0} → Ground → Survives On May P → (o : Opening) (list : List Entry) (j : ℕ) (old new : ℕ → List ℕ)
    → Lands May o list j old new → (w : Work) → work o list ≡ Some w → (job : Job) → slice_get w.jobs j ≡ Some job
    → Of P old (origin_of w j job) (history (origin_of w j job) w.since) → Of P new (origin_of w j job) (history (origin_of w j job) w.since)
works_landed {P} laws s o list j old new (Same e) w is job has_job p =
    subst (λ held. Of P held (origin_of w j job) (history (origin_of w j job) w.since)) (sym e) p
works_landed {P} laws s o list j old new (One l) w is job has_job p =
    let same_w : l.now ≡ w = some_is (sym l.works ∙ is) in
    let same_job : l.job ≡ job = some_is (sym l.has_job ∙ ap (λ (u : Work). slice_get u.jobs j) same_w ∙ has_job) in
    subst (λ (u : Work). Of P new (origin_of u j job) (history (origin_of u j job) u.since)) same_w
    (subst (λ (x : Job). Of P new (origin_of l.now j x) (history (origin_of l.now j x) l.now.since)) same_job
    (run_lands laws s o list j old new l
    (subst (λ (x : Job). Of P old (origin_of l.now j x) (history (origin_of l.now j x) l.now.since)) (sym same_job)
    (subst (λ (u : Work). Of P old (origin_of u j job) (history (origin_of u j job) u.since)) (sym same_w) p))))

-- A state that is linked to the present run, likewise.
state_lands : {P : Notion} {May : ℕ → JobParts → Type 0} {On : ℕ → Type 0} → Ground → Survives On May P
    → (o : Opening) (list : List Entry) (j : ℕ) (old new : ℕ → List ℕ) (state : State) → (l : LandsOne May o list j old new) → (k : LinkOf l.now j state)
    → k.job ≡ l.job
    → OfState P old state → OfState P new state
state_lands {P} laws s o list j old new state l k same p =
    let origin = origin_of l.now j l.job in
    let h = history origin l.now.since in
    let job_is : state.job ≡ l.job.rec = k.job_is ∙ ap (λ (x : Job). x.rec) same in
    let issued_is : state.issued ≡ window.issued h = k.issued_is ∙ ap (λ (x : Job). window.issued (history (origin_of l.now j x) l.now.since)) same in
    let key_is : state.key ≡ origin.key = k.key ∙ ap (λ (x : Job). (origin_of l.now j x).key) same in
    let stays : (i : ℕ) → has state.counted i ≡ true → window.is_done h i ≡ true =
    λ i c. subst (λ (x : Job). window.is_done (history (origin_of l.now j x) l.now.since) i ≡ true) same (k.kept_done i c) in
    let here : P old origin.key l.job.rec state.issued (has state.counted) =
    subst (λ (x : JobParts). P old origin.key x state.issued (has state.counted)) job_is
    (subst (λ (x : Key). P old x state.job state.issued (has state.counted)) key_is p) in
    let landed = s.lands old origin.key l.job.rec h l.write l.mask state.issued (has state.counted) (job_legal laws o list l.now l.works j l.job l.has_job)
    (job_within laws o list l.now l.works j l.job l.has_job) l.is_open l.may issued_is stays here in
    subst (λ held. OfState P held state) (sym l.content)
    (subst (λ (x : Key). P (with_block l.mask (block_of l.job.rec l.write) (bytes_of origin.key l.job.rec l.write) old) x state.job state.issued
    (has state.counted)) (sym key_is)
    (subst (λ (x : JobParts). P (with_block l.mask (block_of l.job.rec l.write) (bytes_of origin.key l.job.rec l.write) old) origin.key x state.issued
    (has state.counted)) (sym job_is) landed))

linked_at : Ground → (o : Opening) (list : List Entry) (w : Work) → work o list ≡ Some w → (j : ℕ) (state : State) → Contains (takings o w.run j list) state
    → LinkOf w j state
linked_at laws o list w is = subst (λ x. Linked o list x) is (linked laws o list)

states_landed : {P : Notion} {May : ℕ → JobParts → Type 0} {On : ℕ → Type 0} → Ground → Survives On May P
    → (o : Opening) (list : List Entry) (j : ℕ) (old new : ℕ → List ℕ) (state : State) → Lands May o list j old new
    → Contains (takings o (last_run o list) j list) state → OfState P old state → OfState P new state
states_landed {P} laws s o list j old new state (Same e) t p = subst (λ held. OfState P held state) (sym e) p
states_landed laws s o list j old new state (One l) t p =
    let k = linked_at laws o list l.now l.works j state (subst (λ r. Contains (takings o r j list) state) (sym (laws.present o list l.now l.works).run) t) in
    state_lands laws s o list j old new state l k (some_is (sym k.has_job ∙ l.has_job)) p

pub kept_landed : {P : Notion} {May : ℕ → JobParts → Type 0} {On : ℕ → Type 0} → Ground → Survives On May P → (o : Opening) (old new : ℕ → ℕ → List ℕ) (list : List Entry)
    → ((j : ℕ) → Lands May o list j (old j) (new j)) → Kept P o old list → Kept P o new list
kept_landed laws s o old new list lands k = record {
  works = λ w is j job has_job. works_landed laws s o list j (old j) (new j) (lands j) w is job has_job (k.works w is j job has_job);
  states = λ j state t. states_landed laws s o list j (old j) (new j) state (lands j) t (k.states j state t);
}
