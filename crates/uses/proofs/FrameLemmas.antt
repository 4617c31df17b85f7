-- How long the frames are that have the state.
use Rattle.std.proofs.Common.{◌≤◌, refl, arith}
use Rattle.messages.specs.declared.body.Body.TheVariants.{Copy, State}
use Rattle.messages.specs.Bodies.{length_of}
use Rattle.messages.specs.Laws.{LengthsAreBounded}
use Rattle.uses.specs.OneJob.{state}
use Rattle.uses.proofs.StateLemmas.{is_state}

pub copy_is_short : LengthsAreBounded → length_of (Copy state) ≤ 1024
copy_is_short law = let few : length_of (Copy state) ≤ 136 = law (Copy state) refl is_state in omega (arith, few)

pub state_is_short : LengthsAreBounded → length_of (State 1 state) ≤ 1024
state_is_short law = let few : length_of (State 1 state) ≤ 140 = law (State 1 state) refl is_state in omega (arith, few)
