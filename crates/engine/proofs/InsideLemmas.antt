-- What the fields of an engine say.
use Rattle.std.proofs.Common.{◌≡◌, ℕ, ◌≤◌, Bool, true, false, cond, ltb, leb, eqb, ◌&&◌, IsTrue, length, refl, ap, sym, ◌∙◌, Some, None}
use Rattle.std.specs.List.{list_any}
use Rattle.std.proofs.lemmas.Bool.{and_parts, ltb-true, lt-leb, leb-true}
use Rattle.fc_base.specs.declared.limits.TheConstants.{MAX_BLOCKS, MAX_DEPTH, MAX_WINDOW, MAX_WRITES}
use Rattle.fc_base.specs.declared.record.JobParts.{JobParts}
use Rattle.fc_base.specs.JobParts.{has_block_size, has_region, has_queue, has_pattern, is_within_limits}
use Rattle.write_order.specs.Blocks.{block_of}
use Rattle.write_order.specs.Progress.{Progress, next_block}
use Rattle.engine.specs.declared.room.Room.TheVariants.{Open}
use Rattle.engine.specs.Kept.{is_held, room_by, room_of}
use Rattle.engine.specs.declared.writes.OpenWrite.{OpenWrite}
use Rattle.engine.specs.declared.engine.Engine.TheInside.{Inside}
use Rattle.engine.specs.declared.issue.Issue.{Issue}
use Rattle.engine.specs.declared.issue.Issue.TheVariants.{Write, Overlap}
use Rattle.engine.specs.Legal.{any_goes_to}
use Rattle.engine.specs.Answers.{answer_of}
use Rattle.engine.specs.Inside.{running_in, IsConsistent}
use Rattle.engine.proofs.AnswerLemmas.{open_answer}
use Rattle.engine.proofs.WriteLemmas.{any_block}

-- at most MAX_DEPTH writes are in flight
pub depth_limit : (job : JobParts) → IsTrue (is_within_limits job) → job.depth ≤ MAX_DEPTH
depth_limit job within =
    let most = and_parts (has_block_size job && has_region job && has_queue job) (has_pattern job) within in
    let queue = and_parts (has_block_size job && has_region job) (has_queue job) most.0 in
    let depth = and_parts (leb 1 job.depth && leb job.depth MAX_DEPTH) _ queue.1 in
    leb-true job.depth MAX_DEPTH (and_parts (leb 1 job.depth) (leb job.depth MAX_DEPTH) depth.0).1

-- the widest window has MAX_WINDOW writes
pub window_limit : (job : JobParts) → IsTrue (is_within_limits job) → job.window ≤ MAX_WINDOW
window_limit job within =
    let most = and_parts (has_block_size job && has_region job && has_queue job) (has_pattern job) within in
    let queue = and_parts (has_block_size job && has_region job) (has_queue job) most.0 in
    let width = and_parts (leb 1 job.depth && leb job.depth MAX_DEPTH) (leb job.depth job.window && leb job.window MAX_WINDOW) queue.1 in
    leb-true job.window MAX_WINDOW (and_parts (leb job.depth job.window) (leb job.window MAX_WINDOW) width.1).1

-- a job has at most a million writes
pub total_limit : (job : JobParts) → IsTrue (is_within_limits job) → job.total ≤ MAX_WRITES
total_limit job within =
    let most = and_parts (has_block_size job && has_region job && has_queue job) (has_pattern job) within in
    let region = and_parts (has_block_size job) (has_region job) (and_parts (has_block_size job && has_region job) (has_queue job) most.0).0 in
    let total = and_parts (leb 1 job.blocks && leb job.blocks MAX_BLOCKS) (leb 1 job.total && leb job.total MAX_WRITES) region.1 in
    leb-true job.total MAX_WRITES (and_parts (leb 1 job.total) (leb job.total MAX_WRITES) total.1).1

some_of : (fewer : Bool) (block next : ℕ) → Some block ≡ cond fewer (Some next) None → (fewer ≡ true) × (block ≡ next)
some_of true block next e = (refl, cc)
some_of false block next e = cc

-- where the order has a block, not all writes were issued, and it is the next write's
next_is : (at : Progress) (block : ℕ) → Some block ≡ next_block at → (leb at.job.total at.issued ≡ false) × (block ≡ block_of at.job at.issued)
next_is at block e =
    let found = some_of (ltb at.issued at.job.total) block (block_of at.job at.issued) e in
    (lt-leb at.job.total at.issued (ltb-true at.issued at.job.total found.0), found.1)

-- the answer where nothing keeps the next write back but an overlap
abbrev pub answer_at : Inside → ℕ → Bool → Issue
answer_at a block here = cond here Overlap (Write (record { boot = a.boot; key = a.key; seq = a.window.issued; block = block }))

pub answer_when_open : (a : Inside) (block : ℕ) (here : Bool) → IsConsistent a → a.stopped ≡ false → a.failed ≡ false → Some block ≡ next_block a.order
    → Open ≡ room_of a.window → here ≡ list_any (λ (w : OpenWrite). eqb w.block block) a.open.items → answer_of (running_in a) ≡ answer_at a block here
answer_when_open a block here i s f n o h =
    let next = next_is (record { job = a.rec; issued = a.window.issued }) block (n ∙ ap next_block i.order) in
    let room : Open ≡ room_by (leb a.rec.depth (length a.window.in_flight)) (is_held a.rec.window a.window.issued a.window.in_flight) =
    rw (← i.depth, ← i.window) o in
    let overlap : any_goes_to a.rec (block_of a.rec a.window.issued) a.window.in_flight ≡ here =
    rw (← next.1, i.none_failed f) (sym (h ∙ ap (list_any (λ (w : OpenWrite). eqb w.block block)) i.open_writes
    ∙ any_block a.rec block a.window.open_writes)) in
    open_answer a.stopped a.failed _ _ _ _ _ s f next.0 room ∙ rw (overlap, next.1) refl
