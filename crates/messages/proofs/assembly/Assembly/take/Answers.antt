use Rattle.std.proofs.Common.{◌≡◌, ◌∙◌, ap, sym, List}
use Rattle.std.specs.Prelude.{slice_index_or, slice_set}
use Rattle.std.specs.List.{position}
use Rattle.std.proofs.lemmas.Result.{on_ok_weaker, on_err_weaker}
use Rattle.messages.specs.declared.piece.Tag.{Tag}
use Rattle.messages.specs.declared.places.PlaceSet.{PlaceSet}
use Rattle.messages.specs.Tags.{is_tag}
use Rattle.messages.specs.Assemblies.{Row, fill, filled_at, filled_of}
use Rattle.messages.proofs.RowLemmas.{stands, lacks, still_waits, taken_more, taken_first}
use Rattle.messages.proofs.assembly.Assembly.take.Goals as goal

pub returns-in-Some-clause-taken : goal.returns-in-Some-clause-taken
returns-in-Some-clause-taken c =
    let q = c.args.piece.now in
    let rows = c.args.self.now in
    let at = c.in-Some.place in
    let row = c.index_mut.result.now in
    let stands = stands q.tag rows at (c.in-Some.ensures ∙ ap (λ (t : Tag). position (λ (r : Row). is_tag r.tag t) rows) c.tag-2.ensures) in
    let here = c.behind-self.view_is ∙ c.index_mut.ensures.value ∙ ap (λ (rs : List Row). slice_index_or rs at row) c.self.view_is in
    let old : c.behind-self.inside.places ≡ filled_of q.tag rows = ap (λ (r : Row). r.filled) here ∙ sym (stands.filled row) in
    let waits = still_waits rows q c.filled_of.result.now c.tag.result c.is_completed.result c.filled_of.ensures c.tag.ensures c.is_completed.ensures
    c.if-is_completed.false in
    on_ok_weaker c.fill.result
    (λ e.
    ap (λ (rs : List Row). slice_set rs at (record { tag = c.behind-self.inside.tag; filled = c.fill.new.self })) c.self.view_is
    ∙ ap (λ (fs : List PlaceSet). slice_set rows at (record { tag = c.behind-self.inside.tag; filled = fs })) (e ∙ ap (fill q) old)
    ∙ ap (λ (t : Tag). slice_set rows at (record { tag = t; filled = fill q (filled_of q.tag rows) })) (ap (λ (r : Row). r.tag) here)
    ∙ sym (stands.changed row (fill q (filled_of q.tag rows)))
    ∙ taken_more q rows stands.has waits)
    c.fill.ensures.filled

pub returns-in-Some-clause-kept : goal.returns-in-Some-clause-kept
returns-in-Some-clause-kept c =
    let q = c.args.piece.now in
    let rows = c.args.self.now in
    let at = c.in-Some.place in
    let row = c.index_mut.result.now in
    let stands = stands q.tag rows at (c.in-Some.ensures ∙ ap (λ (t : Tag). position (λ (r : Row). is_tag r.tag t) rows) c.tag-2.ensures) in
    let here = c.behind-self.view_is ∙ c.index_mut.ensures.value ∙ ap (λ (rs : List Row). slice_index_or rs at row) c.self.view_is in
    let old : c.behind-self.inside.places ≡ filled_of q.tag rows = ap (λ (r : Row). r.filled) here ∙ sym (stands.filled row) in
    let waits = still_waits rows q c.filled_of.result.now c.tag.result c.is_completed.result c.filled_of.ensures c.tag.ensures c.is_completed.ensures
    c.if-is_completed.false in
    on_err_weaker c.fill.result (λ e. record { empty = ap (λ (fs : List PlaceSet). filled_at fs q.at) (sym old) ∙ e; waits = waits }) c.fill.ensures.empty

pub returns-in-None-clause-taken : goal.returns-in-None-clause-taken
returns-in-None-clause-taken c =
    let q = c.args.piece.now in
    let rows = c.args.self.now in
    let lacks = lacks q.tag rows (c.in-None.ensures ∙ ap (λ (t : Tag). position (λ (r : Row). is_tag r.tag t) rows) c.tag-2.ensures) in
    let waits = still_waits rows q c.filled_of.result.now c.tag.result c.is_completed.result c.filled_of.ensures c.tag.ensures c.is_completed.ensures
    c.if-is_completed.false in
    on_ok_weaker c.begin.result (λ e. e ∙ taken_first rows q lacks.absent lacks.empty waits) c.begin.ensures.begun

pub returns-in-None-clause-kept : goal.returns-in-None-clause-kept
returns-in-None-clause-kept c =
    let q = c.args.piece.now in
    let rows = c.args.self.now in
    let lacks = lacks q.tag rows (c.in-None.ensures ∙ ap (λ (t : Tag). position (λ (r : Row). is_tag r.tag t) rows) c.tag-2.ensures) in
    let waits = still_waits rows q c.filled_of.result.now c.tag.result c.is_completed.result c.filled_of.ensures c.tag.ensures c.is_completed.ensures
    c.if-is_completed.false in
    on_err_weaker c.begin.result (λ e. record { empty = ap (λ (fs : List PlaceSet). filled_at fs q.at) lacks.empty; waits = waits }) c.begin.ensures.same
