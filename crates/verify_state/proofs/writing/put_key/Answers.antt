use Rattle.std.proofs.Common.{◌++◌, ◌∙◌, ap, sym}
use Rattle.std.specs.Int.{w32, w64}
use Rattle.fc_base.specs.Layouts.{bytes_of}
use Rattle.fc_base.specs.declared.numbers.Key.{Key}
use Rattle.verify_state.proofs.WritingLemmas.{joined, key_bytes_are}
use Rattle.verify_state.proofs.writing.put_key.Goals as goal

pub returns : goal.returns
returns c =
    let bytes = c.args.bytes.now.items in
    let two = joined bytes _ _ _ _ c.in_ok-put_u64.ensures c.in_ok-put_u32.ensures in
    joined bytes _ _ _ _ two c.in_ok-put_u32-2.ensures
    ∙ ap (λ (k : Key). bytes ++ (bytes_of w64 k.run ++ bytes_of w32 k.server ++ bytes_of w32 k.job)) c.key.view_is
    ∙ ap (λ xs. bytes ++ xs) (sym (key_bytes_are c.args.key.now))
