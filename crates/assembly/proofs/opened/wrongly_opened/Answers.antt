use Rattle.std.proofs.Common.{◌<◌, length, refl, arith}
use Rattle.std.proofs.lemmas.Option.{slice_get_read}
use Rattle.assembly.proofs.OpenedLemmas.{opened_none, opened_more, all_opened, not_opened}
use Rattle.assembly.proofs.opened.wrongly_opened.Goals as goal

pub loop-number-init : goal.loop-number-init
loop-number-init g c = opened_none c.args.servers.now

pub returns-then-not-is_opened_as-clause-some : goal.returns-then-not-is_opened_as-clause-some
returns-then-not-is_opened_as-clause-some g c =
    let client = c.is_opened_for.ensures.0 c.if-not-is_opened_for.false in
    let low : c.loop-number.number < length c.args.servers.now = omega (arith, c.loop-number-test.true, c.servers-number-end.ensures, client.1) in
    let is = slice_get_read c.args.servers.now (length c.args.servers.now) c.loop-number.number c.index-servers-number.result refl low c.index-servers-number.is
    in
    not_opened c.args.client.now c.args.servers.now c.loop-number.number c.index-servers-number.result is
    (λ opened. let yes = c.is_opened_as.ensures.1 opened in cc)

pub loop-number-preserved : goal.loop-number-preserved
loop-number-preserved g c =
    let client = c.is_opened_for.ensures.0 c.if-not-is_opened_for.false in
    let low : c.loop-number.number < length c.args.servers.now = omega (arith, c.loop-number-test.true, c.servers-number-end.ensures, client.1) in
    let is = slice_get_read c.args.servers.now (length c.args.servers.now) c.loop-number.number c.index-servers-number.result refl low c.index-servers-number.is
    in
    opened_more c.args.servers.now c.loop-number.number c.index-servers-number.result c.loop-number.invariant is
    (c.is_opened_as.ensures.0 c.if-not-is_opened_as.false)

pub returns-clause-none : goal.returns-clause-none
returns-clause-none g c =
    let client = c.is_opened_for.ensures.0 c.if-not-is_opened_for.false in
    all_opened c.args.client.now c.args.servers.now c.loop-number.number client.0 client.1 client.2
    (omega (arith, c.loop-number-test.false, c.servers-number-end.ensures, client.1)) c.loop-number.invariant
