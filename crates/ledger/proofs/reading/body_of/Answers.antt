use Rattle.std.proofs.Common.{◌≡◌, ◌-◌, length, take, drop, true, false, not, sym, ap, ◌∙◌, arith, refl}
use Rattle.std.proofs.lemmas.List.{length-append}
use Rattle.std.specs.Prelude.{bytes_eq, nat_le}
use Rattle.std.proofs.lemmas.Bool.{and_parts, leb-true}
use Rattle.std.proofs.lemmas.Slice.Eq.{bytes_eq-Decides}
use Rattle.sha1.specs.Sha1.{sha1}
use Rattle.ledger.proofs.ReadingLemmas.{length_sha1, split_is}
use Rattle.ledger.proofs.reading.body_of.Goals as goal

pub returns-then-bytes-lt-DIGEST_LEN-clause-read : goal.returns-then-bytes-lt-DIGEST_LEN-clause-read
returns-then-bytes-lt-DIGEST_LEN-clause-read c body is =
    omega (arith, ap length is, length-append body (sha1 body), length_sha1 body, c.if-bytes-lt-DIGEST_LEN.true)

pub returns-then-ne-clause-read : goal.returns-then-ne-clause-read
returns-then-ne-clause-read c body is =
    let parts = split_is c.args.bytes.now body c.split_at.result.0.now c.split_at.result.1.now _ is refl c.split_at.ensures.front c.split_at.ensures.back in
    let same : c.as_slice.result.now ≡ c.split_at.result.1.now =
    c.as_slice.ensures ∙ c.digest.ensures ∙ ap sha1 parts.0 ∙ sym parts.1 in
    let equal : bytes_eq c.as_slice.result.now c.split_at.result.1.now ≡ true = (bytes_eq-Decides c.as_slice.result.now c.split_at.result.1.now).1 same in
    let bad : true ≡ false = c.if-ne.ensures ∙ ap not equal in
    cc

pub returns-clause-read : goal.returns-clause-read
returns-clause-read c body is =
    (split_is c.args.bytes.now body c.split_at.result.0.now c.split_at.result.1.now _ is refl c.split_at.ensures.front c.split_at.ensures.back).0

pub returns-then-bytes-lt-DIGEST_LEN-clause-damaged : goal.returns-then-bytes-lt-DIGEST_LEN-clause-damaged
returns-then-bytes-lt-DIGEST_LEN-clause-damaged c damaged =
    let n = length c.args.bytes.now - 20 in
    let long = leb-true 20 (length c.args.bytes.now)
    (and_parts (nat_le 20 (length c.args.bytes.now)) (not (bytes_eq (sha1 (take n c.args.bytes.now)) (drop n c.args.bytes.now))) damaged).0 in
    absurd (omega (arith, long, c.if-bytes-lt-DIGEST_LEN.true))

pub returns-clause-damaged : goal.returns-clause-damaged
returns-clause-damaged c damaged =
    let n = length c.args.bytes.now - 20 in
    let other = (and_parts (nat_le 20 (length c.args.bytes.now)) (not (bytes_eq (sha1 (take n c.args.bytes.now)) (drop n c.args.bytes.now))) damaged).1 in
    let here : not (bytes_eq c.as_slice.result.now c.split_at.result.1.now) ≡ true =
    rw (c.as_slice.ensures, c.digest.ensures, c.split_at.ensures.front, c.split_at.ensures.back) other in
    let bad : false ≡ true = c.if-ne.ensures ∙ here in
    cc
