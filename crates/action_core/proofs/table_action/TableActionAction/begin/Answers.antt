use Rattle.action_core.proofs.Undoing.{undoes_if_ok}
use Rattle.action_core.proofs.table_action.TableActionAction.begin.Goals as goal

pub returns-clause-undone : goal.returns-clause-undone
returns-clause-undone g c = undoes_if_ok c.steps.result
