-- Tags that pass the test are the same.
use Rattle.std.proofs.Common.{◌≡◌, refl, sym, ◌∙◌, ap, ℕ, true, ◌==◌}
use Rattle.std.proofs.lemmas.Bool.{eq-eqb, eqb-true, and_parts}
use Rattle.std.proofs.lemmas.Option.{same_Some}
use Rattle.messages.specs.declared.kind.PacketKind.{PacketKind}
use Rattle.messages.specs.Kinds.{number_of, kind_numbered}
use Rattle.messages.proofs.ChoiceLemmas.{kind_again}
use Rattle.messages.specs.declared.piece.Tag.{Tag}
use Rattle.messages.specs.Tags.{is_tag}

pub is_tag_self : (t : Tag) → is_tag t t ≡ true
is_tag_self t =
    rw (
      eq-eqb (number_of t.whole) (number_of t.whole) refl,
      eq-eqb t.run t.run refl,
      eq-eqb t.number t.number refl,
      eq-eqb t.server t.server refl,
      eq-eqb t.job t.job refl,
      eq-eqb t.length t.length refl,
    ) refl

pub same_kind : (a b : PacketKind) → number_of a ≡ number_of b → a ≡ b
same_kind a b h = same_Some a b (sym (kind_again a) ∙ ap kind_numbered h ∙ kind_again b)

make_tag : PacketKind → ℕ → ℕ → ℕ → ℕ → ℕ → Tag
make_tag w r n s j l = record { whole = w; run = r; number = n; server = s; job = j; length = l }

pub same_tag : (a b : Tag) → is_tag a b ≡ true → a ≡ b
unfolding make_tag
same_tag a b h =
    let p = and_parts _ (a.length == b.length) h in
    let q = and_parts _ (a.job == b.job) p.0 in
    let r = and_parts _ (a.server == b.server) q.0 in
    let s = and_parts _ (a.number == b.number) r.0 in
    let t = and_parts (number_of a.whole == number_of b.whole) (a.run == b.run) s.0 in
    ap (λ w. make_tag w a.run a.number a.server a.job a.length) (same_kind a.whole b.whole (eqb-true (number_of a.whole) (number_of b.whole) t.0))
    ∙ ap (λ r. make_tag b.whole r a.number a.server a.job a.length) (eqb-true a.run b.run t.1)
    ∙ ap (λ n. make_tag b.whole b.run n a.server a.job a.length) (eqb-true a.number b.number s.1)
    ∙ ap (λ n. make_tag b.whole b.run b.number n a.job a.length) (eqb-true a.server b.server r.1)
    ∙ ap (λ n. make_tag b.whole b.run b.number b.server n a.length) (eqb-true a.job b.job q.1)
    ∙ ap (λ n. make_tag b.whole b.run b.number b.server b.job n) (eqb-true a.length b.length p.1)
