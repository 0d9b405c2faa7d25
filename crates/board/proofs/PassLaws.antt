-- A pass that asks one rule of each function: one law for each step. Assumes nothing.
use Rattle.std.specs.Prelude.{◌≡◌, refl, true, false, not, List, [], ◌∷◌, ℕ}
use Rattle.std.proofs.Math.Bool.{or-true, or-false}
use Rattle.records.specs.Records.{Parts, after, any_part}
use Rattle.board_record.specs.declared.Rule.{Rule}
use Rattle.board_record.specs.Rules.{breaks}
use Rattle.board.specs.Pass.{any_breaks}

module _ (rule : Rule) where
  -- no part is left
  pub breaks_none : (left : Parts) → left.parts ≡ [] → any_breaks rule left ≡ not left.whole
  unfolding any_part
  breaks_none left e = rw e (or-false (not left.whole))

  pub breaks_hit : (part : List ℕ) (rest : Parts) → breaks rule part ≡ true → any_breaks rule (after part rest) ≡ true
  unfolding any_part
  breaks_hit part rest h = rw h (or-true (not rest.whole))

  pub breaks_miss : (part : List ℕ) (rest : Parts) → breaks rule part ≡ false → any_breaks rule (after part rest) ≡ any_breaks rule rest
  unfolding any_part
  breaks_miss part rest h = rw h

-- a rule that may be asked of any record is never asked too early
pub any_never : (ps : List (List ℕ)) → any_part (λ p. false) ps ≡ false
unfolding any_part
any_never [] = refl
any_never (p ∷ ps) = any_never ps
