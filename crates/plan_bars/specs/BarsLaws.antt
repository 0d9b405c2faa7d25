-- The BARs that a set's slots hold have sizes that are powers of two. Assumes nothing.
use Rattle.std.specs.Prelude.{List, [], ◌∷◌, ℕ, suc, get_or}
use Rattle.arith.specs.Powers.{PowerOfTwo}
use Rattle.lists.specs.Lists.{All}
use Rattle.plan_rule.specs.Records as placing
use Rattle.bar.specs.declared.Slot.{Slot}
use Rattle.bar.specs.declared.Slot.TheVariants.{Unused, Bar, Upper, Bad}
use Rattle.bar.specs.Bar.{slots, SizedSlot}
use Rattle.bar.specs.BarLaws.{sized_slots}
use Rattle.plan_bars.specs.Bars.{bars_from}

abbrev pub AllSized : List placing.Bar → Type 0
AllSized = All (λ b. PowerOfTwo b.size)

bars_sized : (j : ℕ) (xs : List Slot) → ((i : ℕ) → SizedSlot (get_or xs i Unused)) → AllSized (bars_from j xs)
unfolding bars_from
bars_sized j [] h = tt
bars_sized j (Unused ∷ xs) h = bars_sized (suc j) xs (λ i. h (suc i))
bars_sized j (Bar pool wide size ∷ xs) h = (((h 0).bit, (h 0).power), bars_sized (suc j) xs (λ i. h (suc i)))
bars_sized j (Upper ∷ xs) h = bars_sized (suc j) xs (λ i. h (suc i))
bars_sized j (Bad ∷ xs) h = bars_sized (suc j) xs (λ i. h (suc i))

pub bars_from_sized : (j : ℕ) (set : List ℕ) → AllSized (bars_from j (slots set))
bars_from_sized j set = bars_sized j (slots set) (sized_slots set)
