use Rattle.std.proofs.Common.{◌≡◌, ◌≤◌, ◌+◌, ◌-◌, ℕ, [], length, take, drop, ap, ◌∙◌, refl, arith, length-take, length-drop}
use Rattle.std.specs.Int.{w32, w64, to_be_bytes}
use Rattle.fc_base.specs.declared.numbers.Key.{Key}
use Rattle.write_order.specs.Stamps.{counting_bytes}
use Rattle.write_order.proofs.StampSteps.{front-more, rest-put, stamped_sector-fields}
use Rattle.write_order.proofs.stamp.stamp.Goals as goal

pub returns : goal.returns
returns c =
    let f1 = front-more 0 _ [] _ [] _ refl c.put-at.ensures.front in
    let f2 = front-more _ _ _ _ _ _ f1 c.put-at-2.ensures.front in
    let f3 = front-more _ _ _ _ _ _ f2 c.put-at-3.ensures.front in
    let f4 = front-more _ _ _ _ _ _ f3 c.put-at-4.ensures.front in
    let f5 = front-more _ _ _ _ _ _ f4 c.put-at-5.ensures.front in
    let f6 = front-more _ _ _ _ _ _ f5 c.put-at-6.ensures.front in
    let n1 = ap length c.to_be_bytes.ensures in
    let n2 = ap length c.to_be_bytes-2.ensures in
    let n3 = ap length c.to_be_bytes-3.ensures in
    let n4 = ap length c.to_be_bytes-4.ensures in
    let n5 = ap length c.to_be_bytes-5.ensures in
    let n6 = ap length c.to_be_bytes-6.ensures in
    let at : c.put-at-6.result ≡ 36 = omega arith in
    let end : length c.put-at-6.new.sector ≤ c.put-at-6.result + (512 - c.put-at-6.result) = omega arith in
    let seq : c.seq.inside.0 ≡ c.args.seq = c.seq.view_is in
    let run = ap (λ (k : Key). k.run) c.key.view_is in
    let server = ap (λ (k : Key). k.server) c.key.view_is in
    let job = ap (λ (k : Key). k.job) c.key.view_is in
    let rest : length (take (512 - c.put-at-6.result) (drop c.put-at-6.result c.put-at-6.new.sector)) ≡ 476 =
    omega (arith, length-take {A = ℕ}, length-drop {A = ℕ}) in
    let tail : c.count_up.new.bytes ≡ counting_bytes c.args.seq 476 =
    c.count_up.ensures ∙ ap (counting_bytes c.seq.inside.0) rest ∙ ap (λ n. counting_bytes n 476) seq in
    rest-put c.put-at-6.result _ _ _ _ f6 end
    ∙ stamped_sector-fields c.args.key c.args.seq c.args.block _ _ _ _ _ _ _ (c.to_be_bytes.ensures ∙ ap (to_be_bytes w64) run)
    (c.to_be_bytes-2.ensures ∙ ap (to_be_bytes w32) server)
    (c.to_be_bytes-3.ensures ∙ ap (to_be_bytes w32) job)
    (c.to_be_bytes-4.ensures ∙ ap (to_be_bytes w64) seq)
    (c.to_be_bytes-5.ensures ∙ ap (to_be_bytes w64) c.from.ensures) c.to_be_bytes-6.ensures tail
