use Rattle.circularity.proofs.Cycles.{culprit_is_circular}
use Rattle.circularity.proofs.Unique.{count_unique}
use Rattle.circularity.proofs.verdicts_agree.Goals as goal

pub returns : goal.returns
returns c = record { named_is_circular = culprit_is_circular; one_count = count_unique }
