use Rattle.tl_search.proofs.TableGraphs.{IsGraph-table, AreSources-table}
use Rattle.tl_search.proofs.tests.is_undercut.Goals as goal

pub spread-requires-clause-is_graph : goal.spread-requires-clause-is_graph
spread-requires-clause-is_graph c = IsGraph-table c.shortcut_graph.result.steps c.shortcut_graph.result.back c.shortcut_graph.result.lawful

pub spread-requires-clause-sources : goal.spread-requires-clause-sources
spread-requires-clause-sources c = AreSources-table c.shortcut_graph.result.steps c.shortcut_graph.result.back c.args.sources.now c.requires
