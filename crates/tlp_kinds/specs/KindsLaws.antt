-- What a header of each of these kinds is read as, in the words of the code: its fields, where no check refuses them. Assumes nothing.
use Rattle.std.specs.Prelude.{ℕ, ◌*◌, ◌≤◌, ◌≡◌, refl, Bool, true, false, cond, ◌||◌, List, length, get_or, ltb, eqb}
use Rattle.std.proofs.Common.{arith, sym, ap, subst, ◌∙◌, eq-eqb, eqb-true, le-ltb}
use Rattle.pairs.specs.declared.Kind.{Kind}
use Rattle.pairs.specs.declared.Kind.TheVariants.{Memory as MemoryOf, Io as IoOf, Config as ConfigOf, Completion as CompletionOf}
use Rattle.pairs.specs.declared.MemoryKind.{MemoryKind}
use Rattle.pairs.specs.declared.IoKind.{IoKind}
use Rattle.pairs.specs.declared.ConfigKind.{ConfigKind}
use Rattle.pairs.specs.declared.CompletionKind.{CompletionKind}
use Rattle.pairs.specs.Pairs.{table, first, find_pair, pair_of}
use Rattle.packet.specs.declared.Head.{Head}
use Rattle.packet.specs.declared.Enables.{Enables}
use Rattle.packet.specs.declared.Target.{Target}
use Rattle.packet.specs.declared.Outcome.{Outcome}
use Rattle.packet.specs.declared.Packet.{Packet}
use Rattle.packet.specs.declared.Packet.TheVariants.{Memory, Io, Config, Completion}
use Rattle.packet.specs.Fields.{is_posted}
use Rattle.packet.specs.Rules.{rule_number}
use Rattle.tlp_fields.specs.Fields.{request_head_at, completion_head_at, enables_at, address_at, target_at, outcome_at}
use Rattle.tlp_fields.specs.Fields.{unnamed, unnamed_target, unnamed_lower}
use Rattle.tlp.specs.declared.Reading.TheVariants.{Accepted, Refused as NotRead}
use Rattle.tlp.specs.Reading.{judged, read_as, read_pair, read_of}
use Rattle.tlp_kinds.specs.Kinds.{is_memory, memory_kind, memory_form, is_io, io_kind, is_config, config_kind, is_completion, completion_kind}

-- ## By the table

-- a byte 0 that the table has for this kind and form
abbrev Paired : ℕ → Kind → ℕ → Type 0
Paired b kind form = (s : List ℕ) → read_pair (pair_of b) s ≡ cond (ltb (length s) (4 * form)) (NotRead 1) (read_as kind form s)

-- a test of equality before others: what holds of the number, and of those that pass the others
either : (P : ℕ → Type 0) (b n : ℕ) (rest : Bool) → P n → (rest ≡ true → P b) → eqb b n || rest ≡ true → P b
either P b n rest p others = go (eqb b n) refl
  where
    go : (t : Bool) → eqb b n ≡ t → t || rest ≡ true → P b
    go true e h = subst P (sym (eqb-true b n e)) p
    go false e h = others h

last : (P : ℕ → Type 0) (b n : ℕ) → P n → eqb b n ≡ true → P b
last P b n p e = subst P (sym (eqb-true b n e)) p

memory_paired : (b : ℕ) → is_memory b ≡ true → Paired b (MemoryOf (memory_kind b)) (memory_form b)
unfolding pair_of find_pair first table
memory_paired b =
    let P : ℕ → Type 0 = λ n. Paired n (MemoryOf (memory_kind n)) (memory_form n) in
    either P b 0x00 _ (λ s. refl)
    (either P b 0x20 _ (λ s. refl)
    (either P b 0x01 _ (λ s. refl)
    (either P b 0x21 _ (λ s. refl) (either P b 0x40 _ (λ s. refl) (last P b 0x60 (λ s. refl))))))

io_paired : (b : ℕ) → is_io b ≡ true → Paired b (IoOf (io_kind b)) 3
unfolding pair_of find_pair first table
io_paired b = let P : ℕ → Type 0 = λ n. Paired n (IoOf (io_kind n)) 3 in either P b 0x02 _ (λ s. refl) (last P b 0x42 (λ s. refl))

config_paired : (b : ℕ) → is_config b ≡ true → Paired b (ConfigOf (config_kind b)) 3
unfolding pair_of find_pair first table
config_paired b =
    let P : ℕ → Type 0 = λ n. Paired n (ConfigOf (config_kind n)) 3 in
    either P b 0x04 _ (λ s. refl) (either P b 0x44 _ (λ s. refl) (either P b 0x05 _ (λ s. refl) (last P b 0x45 (λ s. refl))))

completion_paired : (b : ℕ) → is_completion b ≡ true → Paired b (CompletionOf (completion_kind b)) 3
unfolding pair_of find_pair first table
completion_paired b =
    let P : ℕ → Type 0 = λ n. Paired n (CompletionOf (completion_kind n)) 3 in
    either P b 0x0A _ (λ s. refl) (either P b 0x4A _ (λ s. refl) (either P b 0x0B _ (λ s. refl) (last P b 0x4B (λ s. refl))))

-- ## Read

-- the header's length is that of its form
read_paired : (s : List ℕ) (kind : Kind) (form : ℕ) → Paired (get_or s 0 0) kind form → 12 ≤ length s → 4 * form ≤ length s
    → read_of s ≡ read_as kind form s
unfolding read_of
read_paired s kind form paired some long = rw (le-ltb (length s) 12 some) (paired s ∙ rw (le-ltb (length s) (4 * form) long))

-- no bit without a name, and no rule broken
judged_lawful : (stray : Bool) (p q : Packet) → stray ≡ false → p ≡ q → rule_number p ≡ 0 → judged stray q ≡ Accepted p
unfolding judged
judged_lawful stray p q e same z = rw (e, eq-eqb (rule_number q) 0 (ap rule_number (sym same) ∙ z)) (ap Accepted (sym same))

module _ (s : List ℕ) (some : 12 ≤ length s) where
  abbrev b : ℕ
  b = get_or s 0 0

  pub accepted_memory : is_memory b ≡ true → (k : MemoryKind) → k ≡ memory_kind b → (form : ℕ) → form ≡ memory_form b → 4 * form ≤ length s
      → (h : Head) → h ≡ request_head_at form s → (e : Enables) → e ≡ enables_at s → (a : ℕ) → a ≡ address_at form s
      → (posted : Bool) → posted ≡ is_posted (MemoryOf k) → unnamed posted s ≡ false → rule_number (Memory k h e a) ≡ 0
      → read_of s ≡ Accepted (Memory k h e a)
  accepted_memory is k k_is form form_is long h h_is e e_is a a_is posted posted_is named lawful =
      let same : Memory k h e a ≡ Memory (memory_kind b) (request_head_at (memory_form b) s) (enables_at s) (address_at (memory_form b) s) =
      λ i.
      Memory (k_is i) ((h_is ∙ ap (λ (f : ℕ). request_head_at f s) form_is) i) (e_is i)
      ((a_is ∙ ap (λ (f : ℕ). address_at f s) form_is) i) in
      let kept = posted_is ∙ ap (λ (x : MemoryKind). is_posted (MemoryOf x)) k_is in
      read_paired s (MemoryOf (memory_kind b)) (memory_form b) (memory_paired b is) some (subst (λ (f : ℕ). 4 * f ≤ length s) form_is long)
      ∙ judged_lawful (unnamed (is_posted (MemoryOf (memory_kind b))) s) (Memory k h e a) _
      (ap (λ (x : Bool). unnamed x s) (sym kept) ∙ named) same lawful

  pub accepted_io : is_io b ≡ true → (k : IoKind) → k ≡ io_kind b → (h : Head) → h ≡ request_head_at 3 s → (e : Enables) → e ≡ enables_at s
      → (a : ℕ) → a ≡ address_at 3 s → unnamed false s ≡ false → rule_number (Io k h e a) ≡ 0 → read_of s ≡ Accepted (Io k h e a)
  accepted_io is k k_is h h_is e e_is a a_is named lawful =
      let same : Io k h e a ≡ Io (io_kind b) (request_head_at 3 s) (enables_at s) (address_at 3 s) =
      λ i. Io (k_is i) (h_is i) (e_is i) (a_is i) in
      read_paired s (IoOf (io_kind b)) 3 (io_paired b is) some (omega arith)
      ∙ judged_lawful (unnamed false s) (Io k h e a) _ named same lawful

  pub accepted_config : is_config b ≡ true → (k : ConfigKind) → k ≡ config_kind b → (h : Head) → h ≡ request_head_at 3 s
      → (e : Enables) → e ≡ enables_at s → (t : Target) → t ≡ target_at s → unnamed false s || unnamed_target s ≡ false
      → rule_number (Config k h e t) ≡ 0 → read_of s ≡ Accepted (Config k h e t)
  accepted_config is k k_is h h_is e e_is t t_is named lawful =
      let same : Config k h e t ≡ Config (config_kind b) (request_head_at 3 s) (enables_at s) (target_at s) =
      λ i. Config (k_is i) (h_is i) (e_is i) (t_is i) in
      read_paired s (ConfigOf (config_kind b)) 3 (config_paired b is) some (omega arith)
      ∙ judged_lawful (unnamed false s || unnamed_target s) (Config k h e t) _ named same lawful

  pub accepted_completion : is_completion b ≡ true → (k : CompletionKind) → k ≡ completion_kind b
      → (h : Head) → h ≡ completion_head_at k 3 s → (o : Outcome) → o ≡ outcome_at s → unnamed false s || unnamed_lower s ≡ false
      → rule_number (Completion k h o) ≡ 0 → read_of s ≡ Accepted (Completion k h o)
  accepted_completion is k k_is h h_is o o_is named lawful =
      let same : Completion k h o ≡ Completion (completion_kind b) (completion_head_at (completion_kind b) 3 s) (outcome_at s) =
      λ i. Completion (k_is i) ((h_is ∙ ap (λ (x : CompletionKind). completion_head_at x 3 s) k_is) i) (o_is i) in
      read_paired s (CompletionOf (completion_kind b)) 3 (completion_paired b is) some (omega arith)
      ∙ judged_lawful (unnamed false s || unnamed_lower s) (Completion k h o) _ named same lawful
