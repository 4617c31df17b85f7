use Rattle.std.proofs.Common.{◌≡◌, sym, ◌∙◌, ap, subst, None, ◌∷◌, [], ◌++◌, length, List, arith}
use Rattle.std.specs.Prelude.{map}
use Rattle.std.proofs.lemmas.List.{map-append, length-map}
use Rattle.fc_base.specs.declared.numbers.Key.{Key}
use Rattle.fc_base.specs.Keys.{is_same_key}
use Rattle.verify_state.specs.State.{State}
use Rattle.verify_state.specs.StateTable.{kept_of}
use Rattle.verify_state.specs.Table.{IsTable}
use Rattle.indexmap.proofs.CallerLemmas.{insert_entry-new}
use Rattle.verify_state.proofs.EntryLemmas.{looked_up, table_push}
use Rattle.verify_state.proofs.table.StateTable.push.Goals as goal

abbrev absent : (c : goal.In_ok-insert) → kept_of c.args.state.key (map (λ e. e.1) c.self.inside.by_key.entries) ≡ None
absent c = ap (kept_of c.args.state.key) c.self.view_is ∙ c.requires.new

abbrev entries : (c : goal.In_ok-insert) → c.insert.new.self.entries ≡ c.self.inside.by_key.entries ++ (c.args.state.key, c.args.state) ∷ []
entries c =
    let key = c.key.ensures.value in
    let none = ap (λ (k : Key). kept_of k (map (λ e. e.1) c.self.inside.by_key.entries)) key ∙ absent c in
    c.in_ok-insert.ensures.entries
    ∙ insert_entry-new is_same_key c.self.inside.by_key c.key.result c.args.state (looked_up c.key.result c.self.inside.by_key.entries c.self.invariant.keyed ∙ none)
    ∙ ap (λ (k : Key). c.self.inside.by_key.entries ++ (k, c.args.state) ∷ []) key

pub invariant_of-self-2 : goal.invariant_of-self-2
invariant_of-self-2 c =
    let room = ap length (sym c.self.view_is) ∙ length-map c.self.inside.by_key.entries (λ e. e.1) in
    subst IsTable (sym (entries c)) (table_push c.self.inside.by_key.entries c.args.state c.self.invariant (omega (arith, room, c.requires.room)))

pub returns-clause-pushed : goal.returns-clause-pushed
returns-clause-pushed c =
    ap (map (λ e. e.1)) (entries c) ∙ map-append (λ e. e.1) c.self.inside.by_key.entries ((c.args.state.key, c.args.state) ∷ []) ∙ ap (λ (l : List State). l ++ c.args.state ∷ []) c.self.view_is
