-- How an order goes on from write to write.
use Rattle.std.proofs.Common.{◌≡◌, ◌⊎◌, inl, inr, ℕ, ◌+◌, ◌<◌, Some, get_or, refl, sym, ap, subst, ◌∙◌, arith}
use Rattle.std.proofs.lemmas.Bool.{lt-ltb}
use Rattle.fc_base.specs.declared.record.JobParts.{JobParts}
use Rattle.fc_base.specs.declared.record.Kind.{Kind}
use Rattle.fc_base.specs.declared.record.Kind.TheVariants.{Sequential, RandomMap, RandomFree}
use Rattle.write_order.specs.declared.words.Words.{Words}
use Rattle.write_order.specs.declared.order.Chooser.{Chooser}
use Rattle.write_order.specs.declared.order.Chooser.TheVariants.{InTurn, WithMap, WithoutMap}
use Rattle.write_order.specs.Words.{word}
use Rattle.write_order.specs.Ahead.{words_after}
use Rattle.write_order.specs.Picks.{block_with_map}
use Rattle.write_order.specs.Passes.{PassLeft, pass_before}
use Rattle.write_order.specs.Blocks.{block_of}
use Rattle.write_order.specs.Places.{words_used}
use Rattle.write_order.specs.Progress.{Progress, next_block}
use Rattle.write_order.specs.UnderWay.{chooser_of, chooser_before, IsUnderWay}
use Rattle.write_order.specs.declared.order.Order.TheInside.{Inside}

-- What the chooser says of the kind.
pub in_turn_is : (kind : Kind) (pass : PassLeft) → InTurn ≡ chooser_of kind pass → kind ≡ Sequential
in_turn_is Sequential pass e = refl
in_turn_is RandomMap pass e = cc
in_turn_is RandomFree pass e = cc

pub with_map_is : (kind : Kind) (held pass : PassLeft) → WithMap held ≡ chooser_of kind pass → (kind ≡ RandomMap) × (held ≡ pass)
with_map_is Sequential held pass e = cc
with_map_is RandomMap held pass e = (refl, cc)
with_map_is RandomFree held pass e = cc

pub without_map_is : (kind : Kind) (pass : PassLeft) → WithoutMap ≡ chooser_of kind pass → kind ≡ RandomFree
without_map_is Sequential pass e = cc
without_map_is RandomMap pass e = cc
without_map_is RandomFree pass e = refl

-- The next word of an order with a map.
pub next_word_is : (job : JobParts) (k first : ℕ) (words : Words) → job.kind ≡ RandomMap → words ≡ words_after job.seed (words_used job.kind k)
    → first ≡ get_or words.next 0 0 → first ≡ word job.seed k
next_word_is job k first words kind at read =
    read ∙ ap (λ (x : Words). get_or x.next 0 0) at ∙ ap (λ (v : Kind). word job.seed (words_used v k)) kind

-- What a pass picks by the next word is the block of the next write.
pub picked_is_block : (job : JobParts) (k first r : ℕ) (words : Words) (chooser : Chooser) (pass : PassLeft) →
    chooser ≡ WithMap pass → chooser ≡ chooser_before job k → words ≡ words_after job.seed (words_used job.kind k) → first ≡ get_or words.next 0 0 →
    ((ws : ℕ → ℕ) (n : ℕ) → pass ≡ pass_before ws pass.blocks n → first ≡ ws n → r ≡ block_with_map ws pass.blocks n) →
    (job.kind ≡ RandomMap) × (r ≡ block_with_map (word job.seed) job.blocks k)
picked_is_block job k first r words chooser pass held before at read picks =
    let ws = word job.seed in
    let is = with_map_is job.kind pass (pass_before ws job.blocks k) (sym held ∙ before) in
    let blocks : pass.blocks ≡ job.blocks = ap (λ (p : PassLeft). p.blocks) is.1 in
    let here : pass ≡ pass_before ws pass.blocks k = is.1 ∙ ap (λ b. pass_before ws b k) (sym blocks) in
    (is.0, picks ws k here (next_word_is job k first words is.0 at read) ∙ ap (λ b. block_with_map ws b k) blocks)

-- Where a write is left, the next block is its block.
pub next_block_is : (job : JobParts) (k r : ℕ) → k < job.total → r ≡ block_of job k
    → (let at : Progress = record { job = job; issued = k } in Some r ≡ next_block at)
next_block_is job k r more is = let test = lt-ltb k job.total more in rw (test, is) refl

-- An order with its words and its chooser one write on is under way again.
pub goes_on : (o next : Inside) (words : Words) (chooser : Chooser) →
    (let on : Inside = record { rec = o.rec; issued = o.issued; words = words; chooser = chooser } in next ≡ on) →
    o.issued < o.rec.total → words ≡ words_after o.rec.seed (words_used o.rec.kind (o.issued + 1)) → chooser ≡ chooser_before o.rec (o.issued + 1) →
    IsUnderWay (record next { issued = next.issued + 1 })
goes_on o next words chooser on more after before =
    let Holds : Inside → Type 0 = λ x. IsUnderWay (record x { issued = x.issued + 1 }) in
    subst Holds (sym on) (record { issued = omega arith; words = after; chooser = before })

-- The words of a random order go on by one.
pub random_words_go_on : (job : JobParts) (k : ℕ) (words next : Words) → ((n : ℕ) → words_used job.kind n ≡ n) →
    words ≡ words_after job.seed (words_used job.kind k) →
    ((seed n : ℕ) → words ≡ words_after seed n → next ≡ words_after seed (n + 1)) → next ≡ words_after job.seed (words_used job.kind (k + 1))
random_words_go_on job k words next used at step =
    rw used (step job.seed k (at ∙ ap (words_after job.seed) (used k)))

pub all_used : (kind : Kind) (n : ℕ) → kind ≡ RandomMap ⊎ kind ≡ RandomFree → words_used kind n ≡ n
all_used kind n (inl e) = rw e refl
all_used kind n (inr e) = rw e refl

-- The pass of an order with a map goes on by one.
pub pass_goes_on : (job : JobParts) (k first : ℕ) (words : Words) (chooser : Chooser) (pass next : PassLeft) →
    chooser ≡ WithMap pass → chooser ≡ chooser_before job k → words ≡ words_after job.seed (words_used job.kind k) → first ≡ get_or words.next 0 0 →
    ((ws : ℕ → ℕ) (n : ℕ) → pass ≡ pass_before ws pass.blocks n → first ≡ ws n → next ≡ pass_before ws pass.blocks (n + 1)) →
    (job.kind ≡ RandomMap) × (WithMap next ≡ chooser_before job (k + 1))
pass_goes_on job k first words chooser pass next held before at read step =
    let ws = word job.seed in
    let is = with_map_is job.kind pass (pass_before ws job.blocks k) (sym held ∙ before) in
    let blocks : pass.blocks ≡ job.blocks = ap (λ (p : PassLeft). p.blocks) is.1 in
    let here : pass ≡ pass_before ws pass.blocks k = is.1 ∙ ap (λ b. pass_before ws b k) (sym blocks) in
    let on : next ≡ pass_before ws job.blocks (k + 1) =
    step ws k here (next_word_is job k first words is.0 at read) ∙ ap (λ b. pass_before ws b (k + 1)) blocks in
    (is.0, rw is.0 (ap WithMap on))
