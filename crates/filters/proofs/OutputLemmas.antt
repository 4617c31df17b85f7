-- Bytes that are written one behind the other.
use Rattle.std.proofs.Common.{◌≡◌, ◌+◌, ◌-◌, arith, ◌∙◌, ℕ, length, take, drop, take-append-drop, Bool, true, false, List, [], ◌++◌, append_assoc, append-nil, ap, sym, refl, subst, Option}
use Rattle.std.proofs.lemmas.List.{take_all, length-drop}
use lib.Seq.{take-add}
use Rattle.std.specs.Io.KnownBytes.{Appends}
use Rattle.std.proofs.KnownBytes.{Appends-nil, Appends-trans, Appends-kept, Keeps-trans, Keeps-refl}
use Rattle.filters.specs.Written.{Written, AppendsFront, PutsBy, Puts}

by_both : (a b c : Bool) (x y z : Option (List ℕ)) (bs cs : List ℕ) → PutsBy a b x y bs → PutsBy b c y z cs → PutsBy a c x z (bs ++ cs)
by_both false false false x y z bs cs p q = Appends-trans x y z bs cs p q
by_both false false true x y z bs cs p q = record {
  front = bs ++ q.front;
  rest = q.rest;
  all = ap (λ l. bs ++ l) q.all ∙ sym (append_assoc bs q.front q.rest);
  written = Appends-trans x y z bs q.front p q.written;
}
by_both false true true x y z bs cs p q = record {
  front = p.front;
  rest = p.rest ++ cs;
  all = ap (λ l. l ++ cs) p.all ∙ append_assoc p.front p.rest cs;
  written = Appends-kept x y z p.front p.written q;
}
by_both false true false x y z bs cs p q = absurd q
by_both true true true x y z bs cs p q = Keeps-trans x y z p q
by_both true true false x y z bs cs p q = absurd q
by_both true false c x y z bs cs p q = absurd p

-- Bytes behind others.
pub puts_both : (a b c : Written) (bs cs : List ℕ) → Puts a b bs → Puts b c cs → Puts a c (bs ++ cs)
puts_both a b c bs cs p q = (q.0 ∙ p.0, by_both a.failed b.failed c.failed a.bytes b.bytes c.bytes bs cs p.1 q.1)

by_none : (a : Bool) (x : Option (List ℕ)) → PutsBy a a x x []
by_none false x = Appends-nil x
by_none true x = Keeps-refl x

-- No bytes.
pub puts_none : (a : Written) → Puts a a []
puts_none a = (refl, by_none a.failed a.bytes)

-- ---- all of some bytes, by writes that take a part each

-- A write took some of the bytes that were left.
pub some_more : (a b c : Option (List ℕ)) (bytes part : List ℕ) (at n : ℕ) → Appends a b (take at bytes) → part ≡ drop at bytes → Appends b c (take n part)
    → Appends a c (take (at + n) bytes)
some_more a b c bytes part at n before is more =
    subst (Appends a c) (ap (λ l. take at bytes ++ take n l) is ∙ sym (take-add at n bytes)) (Appends-trans a b c (take at bytes) (take n part) before more)

-- Only so many were written.
pub cut_put : (a b : Option (List ℕ)) (bytes : List ℕ) (at : ℕ) → Appends a b (take at bytes) → AppendsFront a b bytes
cut_put a b bytes at wrote =
    record { front = take at bytes; rest = drop at bytes; all = sym (take-append-drop at bytes); written = wrote }

-- What is left of some bytes.
pub rest_all : (bytes : List ℕ) (at : ℕ) → take (length bytes - at) (drop at bytes) ≡ drop at bytes
rest_all bytes at = take_all (length bytes - at) (drop at bytes) (omega (arith, length-drop at bytes))

-- Bytes, and then none.
pub puts_kept : (a b c : Written) (bs : List ℕ) → Puts a b bs → Puts b c [] → Puts a c bs
puts_kept a b c bs p q = subst (Puts a c) (append-nil bs) (puts_both a b c bs [] p q)
