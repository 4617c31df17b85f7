use Rattle.net_world.proofs.TextLemmas as lemmas
use Rattle.net_world.proofs.fresh.one_text_of_each.Goals as goal

pub returns-clause-runs : goal.returns-clause-runs
returns-clause-runs c = lemmas.one_text_of_each_run c.packets_go_to_client.ensures c.packets_go_to_the_client.ensures c.one_text.ensures.runs

pub returns-clause-attempts : goal.returns-clause-attempts
returns-clause-attempts c = lemmas.one_text_of_each_attempt c.packets_go_to_client.ensures c.packets_go_to_the_client.ensures c.one_text.ensures.attempts
