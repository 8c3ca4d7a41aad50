-- Listing the nodes of a clipping and freeing the listed nodes, step by step.
use Rattle.std.proofs.Common.{◌≡◌, ℕ, ◌+◌, ◌<◌, ◌≤◌, eqb, ◌≢◌, List, length, get_or, take, set, Option, Some, None, MatchBool, MatchOption, sym, ap, ◌∙◌, subst, inl, inr, arith, length-set}
use Rattle.std.proofs.lemmas.List.{get_or-set_same, get_or-set_other, get_or-take, length-take, length-take-le}
use Rattle.std.specs.Option.{option_eq}
use Rattle.table.specs.declared.node.Node.{Node}
use Rattle.table.specs.Nodes.{none, at}
use Rattle.table.specs.Climbing.{Climb}
use Rattle.table.proofs.Answering.{by_equal}
use Rattle.table.proofs.Climbs.{climb_used, climb_unique}
use Rattle.table.proofs.Reading.{below_or_not}
use Rattle.edit.specs.Gathering.{Listed, Gathered, Freed, ClippingFreed}

-- a climb's top tells whether the climb ends at a root
pub by_top : (ns : List Node) → length ns ≤ none → (top root n : ℕ) → Climb ns top n → MatchBool (eqb top root) (Climb ns root n) (Climb ns root n → ⊥)
by_top ns few top root n c = by_equal top root (λ e. subst (λ (r : ℕ). Climb ns r n) e c) (λ ne d. ne (climb_unique ns few top root n c d))

-- what was found of the climb's top tells it
pub by_found : (ns : List Node) → length ns ≤ none → (found : Option ℕ) (root n : ℕ) → MatchOption found ((top : ℕ) → Climb ns top n → ⊥) (λ top. Climb ns top n) → MatchBool (option_eq eqb found (Some root)) (Climb ns root n) (Climb ns root n → ⊥)
by_found ns few None root n out = out root
by_found ns few (Some top) root n c = by_top ns few top root n c

module _ (ns : List Node) (root : ℕ) (slots : List ℕ) where
  module _ (n count : ℕ) (slots' : List ℕ) (so_far : Gathered ns root n slots slots' count) where
    -- the node's climb ends elsewhere
    pub gathered_not : (Climb ns root n → ⊥) → Gathered ns root (n + 1) slots slots' count
    gathered_not out = record {
      few = omega (arith, so_far.few);
      climbs = so_far.climbs;
      all = λ m h c. elim (below_or_not m n) [
        | inl l ↦ so_far.all m l c
        | inr l ↦ let e : m ≡ n = omega arith in absurd (out (subst (λ (i : ℕ). Climb ns root i) e c))
      ];
      rest = record { many = so_far.rest.many; same = λ k d h. so_far.rest.same k d (omega arith) };
    }

    -- the node is listed behind the others
    pub gathered_more : n < length slots → Climb ns root n → Gathered ns root (n + 1) slots (set slots' count n) (count + 1)
    gathered_more room c = record {
      few = omega (arith, so_far.few);
      climbs = λ k h. elim (below_or_not k count) [
        | inl l ↦ subst (λ (i : ℕ). Climb ns root i) (sym (before k l)) (so_far.climbs k l)
        | inr l ↦ let e : k ≡ count = omega arith in subst (λ (i : ℕ). Climb ns root i) (sym (ap (λ i. get_or (set slots' count n) i 0) e ∙ last)) c
      ];
      all = λ m h d. elim (below_or_not m n) [
        | inl l ↦ let p : Listed slots' count m = so_far.all m l d in (p.0, omega (arith, p.1), before p.0 p.1 ∙ p.2)
        | inr l ↦ let e : n ≡ m = omega arith in (count, omega arith, last ∙ e)
      ];
      rest = record {
        many = length-set slots' count n ∙ so_far.rest.many;
        same = λ k d h. (let other : k ≢ count = omega (arith, so_far.few) in get_or-set_other slots' count k n d other) ∙ so_far.rest.same k d (omega arith);
      };
    }
      where
        before : (k : ℕ) → k < count → get_or (set slots' count n) k 0 ≡ get_or slots' k 0
        before k l = let other : k ≢ count = omega arith in get_or-set_other {A = ℕ} slots' count k n 0 other

        last : get_or (set slots' count n) count 0 ≡ n
        last = let inside : count < length slots' = omega (arith, so_far.few, so_far.rest.many, room) in get_or-set_same {A = ℕ} slots' count n 0 inside

-- the listed nodes lie in the table
pub listed_inside : (root count : ℕ) (before : List Node) (waiting waiting' : List ℕ) → Gathered before root (length before) waiting waiting' count → (k : ℕ) → k < length (take count waiting') → get_or (take count waiting') k 0 < length before
listed_inside root count before waiting waiting' listed k h =
    let l : k < count = omega (arith, h, length-take count waiting') in
    rw (get_or-take count waiting' k 0 l) (climb_used _ _ _ (listed.climbs k l)).0

-- the nodes of the clipping are listed, and the listed nodes freed
pub clipping_freed : (root count : ℕ) (before after : List Node) (waiting waiting' : List ℕ) → Gathered before root (length before) waiting waiting' count → Freed waiting' count before after → ClippingFreed root before after waiting waiting'
clipping_freed root count before after waiting waiting' listed done = record {
  records = record {
    many = done.many;
    freed = λ n c.
        let p : Listed waiting' count n = listed.all n (climb_used before root n c).0 c in
        ap (λ i. at after i) (sym p.2) ∙ done.freed p.0 p.1;
    others = λ n out. done.others n (λ p. out (subst (λ (i : ℕ). Climb before root i) p.2 (listed.climbs p.0 p.1)));
  };
  same_waiting = listed.rest;
}

-- the same, where the listed nodes are lent by themselves, cut off the list
pub cut_list_freed : (root count : ℕ) (before after : List Node) (waiting waiting' : List ℕ) → length before ≤ length waiting → Gathered before root (length before) waiting waiting' count → Freed (take count waiting') (length (take count waiting')) before after → ClippingFreed root before after waiting waiting'
cut_list_freed root count before after waiting waiting' room listed freed = clipping_freed root count before after waiting waiting' listed done
  where
    long : length (take count waiting') ≡ count
    long = length-take-le count waiting' (omega (arith, listed.few, listed.rest.many))

    done : Freed waiting' count before after
    done = record {
      many = freed.many;
      freed = λ k h. ap (at after) (sym (get_or-take count waiting' k 0 h)) ∙ freed.freed k (omega (arith, long));
      others = λ n out. freed.others n (λ p. let l : p.0 < count = omega (arith, p.1, long) in out (p.0, l, sym (get_or-take count waiting' p.0 0 l) ∙ p.2));
    }
