-- In each trace a tag names one body: only job files are cut.
use Rattle.std.proofs.Common.{◌≡◌, refl, sym, ◌∙◌, ap, subst, ℕ, ◌≤◌, arith, true, ◌&&◌, List}
use Rattle.std.specs.Prelude.{Contains, IsTrue, nat_lt}
use Rattle.std.proofs.lemmas.Bool.{and_parts}
use Rattle.std.proofs.lemmas.Bool.Decides.{nat_tests}
use Rattle.messages.specs.declared.limits.TheConstants.{CHUNK_LIMIT}
use Rattle.messages.specs.declared.packet.PacketParts.{PacketParts}
use Rattle.messages.specs.declared.body.Body.{Body}
use Rattle.messages.specs.declared.body.Body.TheVariants as bodies
use Rattle.messages.specs.declared.piece.Tag.{Tag}
use Rattle.messages.specs.Nodes.{is_node}
use Rattle.messages.specs.Ranges.{is_body, KeepsState}
use Rattle.messages.specs.Bodies.{kind_of, length_limit, length_of}
use Rattle.messages.specs.Laws.{IsPacket, LengthsAreBounded}
use Rattle.messages.specs.Pieces.{is_cut, tag_of}
use Rattle.net_world.specs.Setup.{Setup}
use Rattle.net_world.specs.Trace.{Step, IsTrace, sent_packets}
use Rattle.net_world.specs.Claims.{OfEachTrace}
use Rattle.net_world.specs.Headline.{OneTextOfEachRun, OneTextOfEachAttempt}
use Rattle.net_world.specs.FrameLaws.{TagsNameOneBody}

-- A body that is cut has a job file.
pub data Long (b : Body) : Type 0 where
  OfJobs : (run : ℕ) (text : List ℕ) → b ≡ bodies.Jobs run text → Long b
  OfVerify : (run attempt : ℕ) (text : List ℕ) → b ≡ bodies.Verify run attempt text → Long b

short : (b : Body) (limit : ℕ) → length_of b ≤ limit → limit ≤ CHUNK_LIMIT → is_cut b ≡ true → Long b
short b limit l m c = absurd (below (length_of b) limit l m c)
  where
    below : (a limit : ℕ) → a ≤ limit → limit ≤ CHUNK_LIMIT → nat_lt CHUNK_LIMIT a ≡ true → ⊥
    below a limit l m c = grind (arith, nat_tests)

pub long : LengthsAreBounded → (b : Body) → IsTrue (is_body b) → KeepsState b → is_cut b ≡ true → Long b
long law (bodies.Jobs run text) h k c = OfJobs run text refl
long law (bodies.Verify run attempt text) h k c = OfVerify run attempt text refl
long law b h k c = short b (length_limit (kind_of b)) (law b h k) (omega arith) c

tags_are : (b c x y : Body) → b ≡ x → c ≡ y → tag_of b ≡ tag_of c → tag_of x ≡ tag_of y
tags_are b c x y h k e = sym (ap tag_of h) ∙ e ∙ ap tag_of k

same_body : OfEachTrace OneTextOfEachRun → OfEachTrace OneTextOfEachAttempt → (w : Setup) (t : List Step) → IsTrace w t → (p q : PacketParts)
    → Contains (sent_packets w t) p → Contains (sent_packets w t) q → tag_of p.body ≡ tag_of q.body → Long p.body → Long q.body → p.body ≡ q.body
same_body texts checks w t trace p q i j e (OfJobs run text h) (OfJobs other more k) =
    let run_is : run ≡ other = ap (λ (x : Tag). x.run) (tags_are p.body q.body (bodies.Jobs run text) (bodies.Jobs other more) h k e) in
    let k_is : q.body ≡ bodies.Jobs run more = subst (λ x. q.body ≡ bodies.Jobs x more) (sym run_is) k in
    h ∙ ap (bodies.Jobs run) (texts w t trace p q run text more i h j k_is) ∙ sym k_is
same_body texts checks w t trace p q i j e (OfVerify run a text h) (OfVerify other b more k) =
    let tags = tags_are p.body q.body (bodies.Verify run a text) (bodies.Verify other b more) h k e in
    let attempt_is : a ≡ b = ap (λ (x : Tag). x.number) tags in
    let run_is : run ≡ other = ap (λ (x : Tag). x.run) tags in
    let k_is : q.body ≡ bodies.Verify run a more =
    subst (λ x. q.body ≡ bodies.Verify run x more) (sym attempt_is) (subst (λ x. q.body ≡ bodies.Verify x b more) (sym run_is) k) in
    h ∙ ap (bodies.Verify run a) (checks w t trace p q a run run text more i h j k_is).1 ∙ sym k_is
same_body texts checks w t trace p q i j e (OfJobs run text h) (OfVerify other b more k) =
    let x = ap (λ (y : Tag). y.whole) (tags_are p.body q.body (bodies.Jobs run text) (bodies.Verify other b more) h k e) in absurd cc
same_body texts checks w t trace p q i j e (OfVerify run a text h) (OfJobs other more k) =
    let x = ap (λ (y : Tag). y.whole) (tags_are p.body q.body (bodies.Verify run a text) (bodies.Jobs other more) h k e) in absurd cc

pub in_range : (p : PacketParts) → IsPacket p → is_body p.body ≡ true
in_range p h = (and_parts (is_node p.from && is_node p.to) (is_body p.body) h.in_range).1

pub tags_name_one_body : LengthsAreBounded → OfEachTrace OneTextOfEachRun → OfEachTrace OneTextOfEachAttempt → TagsNameOneBody
tags_name_one_body law texts checks w t trace are p q i j c d e =
    same_body texts checks w t trace p q i j e (long law p.body (in_range p (are p i)) (are p i).state c)
    (long law q.body (in_range q (are q j)) (are q j).state d)
