use Rattle.std.proofs.Common.{◌≡◌, ℕ, ◌+◌, ◌<◌, ltb, cond, List, Option, length, sym, ◌∙◌, ap, arith}
use Rattle.std.proofs.lemmas.Bool.Decides.{nat_tests}
use Rattle.std.specs.Option.{unwrap_or}
use Rattle.disk_model.specs.File.{zeros, sector_of}
use Rattle.disk_model.specs.Singles.{single_of}
use Rattle.disk_model.proofs.SectorLemmas.{sector_of-replicate, placed_one, passed_one}
use Rattle.disk_model.proofs.singles.Singles.read.Goals as goal
use Rattle.disk_model.proofs.singles.Singles.read.Goals.{in-Some, in_default}

before : (j : ℕ) (x : List ℕ) → zeros ≡ cond (ltb j 0) x zeros
before j x = grind (arith, nat_tests)

below : (j n : ℕ) (x : List ℕ) → j < n → cond (ltb j n) x zeros ≡ x
below j n x lt = grind (arith, nat_tests)

pub loop-i-init : goal.loop-i-init
loop-i-init c j lt =
    ap (λ (l : List ℕ). sector_of l j) (c.fill.ensures.after (λ y is. is))
    ∙ sector_of-replicate (length c.args.bytes.now) j (omega (arith, c.fill.auto.self))
    ∙ before j (single_of c.args.self.now (c.args.first + j))

pub loop-i-preserved : goal.loop-i-preserved
loop-i-preserved c j lt =
    let wanted : ℕ → List ℕ = λ k. single_of c.args.self.now (c.args.first + k) in
    let at = c.loop-i.i in
    let so_far = c.loop-i.invariant j (omega arith) in
    let of : Option (List ℕ) → List ℕ = λ o. unwrap_or o zeros in
    elim c.match-get.branch [
      | in-Some w ↦
          let is = w.copy.ensures ∙ ap of w.in-Some.ensures.value in
          rw w.bytes-is (placed_one c.loop-i.bytes w.copy.new.to wanted at j (omega arith) is (omega arith) so_far)
      | in_default w ↦
          rw w.bytes-is (passed_one c.loop-i.bytes wanted at j (sym (ap of w.in_default.ensures.value)) so_far)
    ]

pub returns : goal.returns
returns c i lt =
    c.loop-i.invariant i (omega arith)
    ∙ below i c.loop-i.i (single_of c.args.self.now (c.args.first + i)) (omega arith)
