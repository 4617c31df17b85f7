use Rattle.net_world.proofs.ReportLemmas as lemmas
use Rattle.net_world.proofs.reported.shown_reports_were_made.Goals as goal

pub returns-clause-sent : goal.returns-clause-sent
returns-clause-sent c = lemmas.sent_reports_were_made
    (record {
      quiet = c.one_state_of_each_job.ensures.quiet;
      made = c.reports_were_made.ensures;
      to_client = c.packets_go_to_client.ensures;
      to_peers = c.packets_go_to_peers.ensures;
      over = c.packets_go_to_the_client.ensures;
    })

pub returns-clause-held : goal.returns-clause-held
returns-clause-held c = lemmas.held_reports_were_made
    (record {
      quiet = c.one_state_of_each_job.ensures.quiet;
      made = c.reports_were_made.ensures;
      to_client = c.packets_go_to_client.ensures;
      to_peers = c.packets_go_to_peers.ensures;
      over = c.packets_go_to_the_client.ensures;
    })
    c.reports_came.ensures.came
