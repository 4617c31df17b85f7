use Rattle.server_core.proofs.FollowLemmas.{follows, starts_follow}
use Rattle.server_core.proofs.law.words_follow.Goals as goal

pub returns-clause-requests : goal.returns-clause-requests
returns-clause-requests c = follows

pub returns-clause-starts : goal.returns-clause-starts
returns-clause-starts c = starts_follow
