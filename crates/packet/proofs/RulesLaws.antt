-- What the number of the first rule broken is for each kind: the rules that speak of the kind, in their order. Assumes nothing.
use Rattle.std.specs.Prelude.{ℕ, ◌+◌, ◌*◌, ◌%◌, ◌^◌, ◌≡◌, refl, Bool, true, false, cond, not, ◌&&◌, ◌||◌, ltb, eqb}
use Rattle.std.proofs.Common.{sym, ap, ◌∙◌}
use Rattle.std.proofs.lemmas.Bool.{false≢true}
use Rattle.pairs.specs.declared.MemoryKind.{MemoryKind}
use Rattle.pairs.specs.declared.IoKind.{IoKind}
use Rattle.pairs.specs.declared.ConfigKind.{ConfigKind}
use Rattle.pairs.specs.declared.CompletionKind.{CompletionKind}
use Rattle.pairs.specs.declared.CompletionKind.TheVariants.{Cpl, CplD, CplLk, CplDLk}
use Rattle.pairs.specs.declared.MessageKind.{MessageKind}
use Rattle.pairs.specs.declared.MessageKind.TheVariants.{Msg, MsgD}
use Rattle.pairs.specs.declared.MessageRouting.{MessageRouting}
use Rattle.packet.specs.declared.Head.{Head}
use Rattle.packet.specs.declared.Enables.{Enables}
use Rattle.packet.specs.declared.Target.{Target}
use Rattle.packet.specs.declared.Outcome.{Outcome}
use Rattle.packet.specs.declared.Packet.TheVariants.{Memory, Io, Config, Completion, Message}
use Rattle.packet.specs.Rules.{is_by_address, reserved_set, one_dword, fixed_wrong, upper_zero}
use Rattle.packet.specs.Rules.{enables_lawful, enables_wrong, crosses_page, is_status}
use Rattle.packet.specs.Rules.{status_wrong, from_rule9, from_rule8, from_rule7, from_rule6, from_rule5, rule_number}
use Rattle.packet.specs.RulesLaws.{has_no_length, is_without_data}

-- a check that answers no leaves those after it; one that answers yes gives its number
pub passed : {t b : Bool} {n : ℕ} (k : ℕ) → t ≡ b → t ≡ false → cond b k n ≡ n
passed {n = n} k e f = ap (λ (b : Bool). cond b k n) (sym e ∙ f)

pub stopped : {t b : Bool} {k : ℕ} (n : ℕ) → t ≡ b → t ≡ true → cond b k n ≡ k
stopped {k = k} n e f = ap (λ (b : Bool). cond b k n) (sym e ∙ f)

rule_number_memory : (k : MemoryKind) (h : Head) (e : Enables) (a : ℕ) → rule_number (Memory k h e a)
    ≡ cond (not (eqb (a % 4) 0) || eqb h.at 3) 4
    (cond (eqb h.form 4 && ltb a (2 ^ 32)) 6
    (cond (not (enables_lawful h.length a e)) 7
    (cond (ltb 4096 (a % 4096 + 4 * h.length)) 8 0)))
unfolding rule_number from_rule5 from_rule6 from_rule7 from_rule8 from_rule9 reserved_set fixed_wrong upper_zero enables_wrong crosses_page status_wrong
rule_number_memory k h e a = refl

pub rule_number_io : (k : IoKind) (h : Head) (e : Enables) (a : ℕ) → rule_number (Io k h e a)
    ≡ cond (not (eqb (a % 4) 0)) 4 (cond (not (one_dword h e)) 5 0)
unfolding rule_number from_rule5 from_rule6 from_rule7 from_rule8 from_rule9 reserved_set fixed_wrong upper_zero enables_wrong crosses_page status_wrong
rule_number_io k h e a = refl

pub rule_number_config : (k : ConfigKind) (h : Head) (e : Enables) (t : Target) → rule_number (Config k h e t)
    ≡ cond (not (one_dword h e)) 5 0
unfolding rule_number from_rule5 from_rule6 from_rule7 from_rule8 from_rule9 reserved_set fixed_wrong upper_zero enables_wrong crosses_page status_wrong
rule_number_config k h e t = refl

pub rule_number_completion : (k : CompletionKind) (h : Head) (o : Outcome) → rule_number (Completion k h o)
    ≡ cond (not (eqb h.at 0)) 4
    (cond (has_no_length k && not (eqb h.length 0)) 5
    (cond (not (is_status o.status)) 9 0))
unfolding rule_number from_rule5 from_rule6 from_rule7 from_rule8 from_rule9 reserved_set fixed_wrong upper_zero enables_wrong crosses_page status_wrong
rule_number_completion Cpl h o = refl
rule_number_completion CplD h o = refl
rule_number_completion CplLk h o = refl
rule_number_completion CplDLk h o = refl

pub rule_number_message : (k : MessageKind) (h : Head) (routing : MessageRouting) (code tail : ℕ)
    → rule_number (Message k h routing code tail)
    ≡ cond (not (eqb h.at 0) || is_by_address routing && not (eqb (tail % 4) 0)) 4
    (cond (is_without_data k && not (eqb h.length 0)) 5 0)
unfolding rule_number from_rule5 from_rule6 from_rule7 from_rule8 from_rule9 reserved_set fixed_wrong upper_zero enables_wrong crosses_page status_wrong
rule_number_message Msg h routing code tail = refl
rule_number_message MsgD h routing code tail = refl

-- ## Tests joined with no branch between them

pub picked : (t x y : Bool) → t && x || not t && y ≡ cond t x y
picked true true y = refl
picked true false y = refl
picked false x y = refl

four_joined : (a b c d : Bool) → ((a || b) || c) || d ≡ true
    → ◌≡◌ {A = ℕ} (cond a 4 (cond b 6 (cond c 7 8))) (cond a 4 (cond b 6 (cond c 7 (cond d 8 0))))
four_joined true b c d h = refl
four_joined false true c d h = refl
four_joined false false true d h = refl
four_joined false false false true h = refl
four_joined false false false false h = absurd (false≢true h)

none_joined : (a b c d : Bool) → ((a || b) || c) || d ≡ false → ◌≡◌ {A = ℕ} 0 (cond a 4 (cond b 6 (cond c 7 (cond d 8 0))))
none_joined true b c d h = absurd (false≢true (sym h))
none_joined false true c d h = absurd (false≢true (sym h))
none_joined false false true d h = absurd (false≢true (sym h))
none_joined false false false true h = absurd (false≢true (sym h))
none_joined false false false false h = refl

-- the four rules of a memory request: t is what was answered of the enables, and l the Length that was added
module _ (k : MemoryKind) (h : Head) (e : Enables) (a : ℕ) {t : Bool} {l : ℕ}
    (enables : t ≡ enables_lawful h.length a e) (dwords : l ≡ h.length) where
  abbrev reserved : Bool
  reserved = not (eqb (a % 4) 0) || eqb h.at 3

  abbrev upper : Bool
  upper = eqb h.form 4 && ltb a (2 ^ 32)

  pub one_broken : ((reserved || upper) || not t) || ltb 4096 (a % 4096 + 4 * l) ≡ true
      → cond reserved 4 (cond upper 6 (cond (not t) 7 8)) ≡ rule_number (Memory k h e a)
  one_broken given =
      rw (rule_number_memory k h e a, ← enables, ← dwords) (four_joined reserved upper (not t) (ltb 4096 (a % 4096 + 4 * l)) given)

  pub none_broken : ((reserved || upper) || not t) || ltb 4096 (a % 4096 + 4 * l) ≡ false → 0 ≡ rule_number (Memory k h e a)
  none_broken given =
      rw (rule_number_memory k h e a, ← enables, ← dwords) (none_joined reserved upper (not t) (ltb 4096 (a % 4096 + 4 * l)) given)
