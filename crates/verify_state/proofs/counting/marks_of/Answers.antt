use Rattle.std.proofs.Common.{◌≡◌, ◌∙◌, ◌+◌, ◌&&◌, ltb, sym, ap, take}
use Rattle.std.proofs.lemmas.List.{take_all}
use Rattle.fc_base.specs.Counted.{has, counted}
use Rattle.fc_base.specs.Marks.{floor_of, is_marked}
use Rattle.fc_base.specs.MarkLaws.{none_marked, marks_from_bits}
use Rattle.fc_base.specs.CountLaws.{listed_from_floor}
use Rattle.verify_state.proofs.counting.marks_of.Goals as goal

pub loop-seq-init : goal.loop-seq-init
loop-seq-init c = record { bits = none_marked }

pub returns : goal.returns
returns c =
    let window = c.args.window in
    let issued = c.args.issued in
    let list = c.args.list.now in
    let all : take c.loop-seq.seq-index list ≡ list = take_all c.loop-seq.seq-index list c.loop-seq-test.false in
    let words = c.words-words.ensures in
    sym words.value ∙ marks_from_bits c.words-words.result (has (counted window issued list)) (floor_of window issued) words.four words.range (λ i small.
    ap (λ marks. is_marked marks i) words.value
    ∙ c.loop-seq.invariant.bits i small
    ∙ ap (λ floor. has (take c.loop-seq.seq-index list) (floor + i) && ltb (floor + i) issued) c.floor_of-floor.ensures.value
    ∙ ap (λ l. has l (floor_of window issued + i) && ltb (floor_of window issued + i) issued) all
    ∙ sym (listed_from_floor window issued list i))
