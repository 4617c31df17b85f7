use Rattle.commands.proofs.UnreadLemmas.{unread_answers}
use Rattle.commands.proofs.world.run_world.Goals as goal

pub returns-in-Err : goal.returns-in-Err
returns-in-Err g c =
    unread_answers (g.R.Read.remaining c.args.reader.now) (g.W.Write.contents c.args.writer.now) (g.W.Write.contents c.run_script.new.writer)
    (g.W.Write.contents c.refuse_unread.new.writer) c.in-Err.fault c.refuse_unread.result c.in-Err.ensures c.refuse_unread.ensures
