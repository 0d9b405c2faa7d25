-- A packet's numbers, with its kind as a number. Assumes nothing.
use Rattle.std.specs.Prelude.{ℕ, ◌≡◌, ◌++◌}
use Rattle.std.proofs.Math.Path.{ap}
use Rattle.pairs.specs.declared.Kind.TheVariants.{Memory as MemoryOf, Io as IoOf, Config as ConfigOf, Completion as CompletionOf}
use Rattle.pairs.specs.declared.MemoryKind.{MemoryKind}
use Rattle.pairs.specs.declared.IoKind.{IoKind}
use Rattle.pairs.specs.declared.ConfigKind.{ConfigKind}
use Rattle.pairs.specs.declared.CompletionKind.{CompletionKind}
use Rattle.pairs.specs.Pairs.{kind_number}
use Rattle.packet.specs.declared.Head.{Head}
use Rattle.packet.specs.declared.Enables.{Enables}
use Rattle.packet.specs.declared.Target.{Target}
use Rattle.packet.specs.declared.Outcome.{Outcome}
use Rattle.packet.specs.declared.Packet.TheVariants.{Memory, Io, Config, Completion}
use Rattle.packet_numbers.specs.Numbers.{head_numbers, request_numbers, outcome_numbers, absent, numbers_of}

module _ (kind : ℕ) (h : Head) where
  pub numbers_memory : (k : MemoryKind) (e : Enables) (a : ℕ) → kind ≡ kind_number (MemoryOf k)
      → head_numbers kind h ++ (request_numbers e a 0 0 ++ absent) ≡ numbers_of (Memory k h e a)
  unfolding numbers_of
  numbers_memory k e a same = ap (λ (n : ℕ). head_numbers n h ++ (request_numbers e a 0 0 ++ absent)) same

  pub numbers_io : (k : IoKind) (e : Enables) (a : ℕ) → kind ≡ kind_number (IoOf k)
      → head_numbers kind h ++ (request_numbers e a 0 0 ++ absent) ≡ numbers_of (Io k h e a)
  unfolding numbers_of
  numbers_io k e a same = ap (λ (n : ℕ). head_numbers n h ++ (request_numbers e a 0 0 ++ absent)) same

  pub numbers_config : (k : ConfigKind) (e : Enables) (t : Target) → kind ≡ kind_number (ConfigOf k)
      → head_numbers kind h ++ (request_numbers e 0 t.id t.register ++ absent) ≡ numbers_of (Config k h e t)
  unfolding numbers_of
  numbers_config k e t same = ap (λ (n : ℕ). head_numbers n h ++ (request_numbers e 0 t.id t.register ++ absent)) same

  pub numbers_completion : (k : CompletionKind) (o : Outcome) → kind ≡ kind_number (CompletionOf k)
      → head_numbers kind h ++ (absent ++ outcome_numbers o) ≡ numbers_of (Completion k h o)
  unfolding numbers_of
  numbers_completion k o same = ap (λ (n : ℕ). head_numbers n h ++ (absent ++ outcome_numbers o)) same
