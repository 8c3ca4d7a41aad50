use Rattle.plan.specs.Scope.{scope_of, entry_declared, entry_overlaid}
use Rattle.plan.proofs.Words
use Rattle.plan.proofs.Words.{entry_word, declared_small, overlaid_small}
use Rattle.plan.proofs.theorems.scopes_are_told_by_entries.Goals as goal

pub returns : goal.returns
unfolding scope_of
returns c =
    record {
      after_declaration = λ s n t k small h. entry_word (entry_declared s n t) (declared_small s n t small) 32 k h;
      laid_over = λ s t k h. entry_word (entry_overlaid s t) (overlaid_small s t) 32 k h;
      told_by_entries = Words.told_by_entries;
    }
