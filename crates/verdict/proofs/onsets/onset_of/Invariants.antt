use Rattle.std.proofs.Common.{◌≡◌, ◌≤◌, ℕ, false, length, take}
use Rattle.regmodel.specs.Prelude.{outcome_of}
use Rattle.world.specs.Sound.{IsSameWorld, letters_of, world_programs}
use Rattle.verdict.specs.Demands.{clauses_asked, meets_demands}
use Rattle.verdict.proofs.onsets.onset_of.Given as goal

-- the world stands at the first so many letters, and each longer beginning is refused, and this one
abbrev pub invariant-loop-onset : goal.invariant-loop-onset
invariant-loop-onset g l = record {
  same : IsSameWorld (λ b. (goal.Machine-dyn g b).means b.1) l.fn.world l.world;
  at : letters_of l.world ≡ take l.onset (letters_of l.fn.world);
  there : l.onset ≤ length (letters_of l.fn.world);
  refused : (k : ℕ) → l.onset ≤ k → k ≤ length (letters_of l.fn.world) → meets_demands (clauses_asked false l.clauses) l.allows_faults (outcome_of (world_programs (λ b. (goal.Machine-dyn g b).means b.1) l.fn.world) (take k (letters_of l.fn.world))) ≡ false;
}

abbrev pub decreases-loop-onset : goal.decreases-loop-onset
decreases-loop-onset g l = l.onset
