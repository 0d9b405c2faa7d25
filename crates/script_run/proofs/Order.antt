-- In a script a bridge's bus registers are written before anything below it: by its own part of the script, and within that by the record's
-- number. Assumes nothing.
use Rattle.std.specs.Prelude.{◌≡◌, refl, ◌⊎◌, Bool, true, false, cond, ℕ, suc, ◌+◌, ◌≤◌, ◌<◌, length}
use Rattle.std.proofs.Common.{sym, ap, ap₂, ◌∙◌, inl, inr, arith}
use Rattle.std.proofs.Math.Path.{subst}
use mathlib.Core.List.Memᴰ
use mathlib.Core.List.{List, [], ◌∷◌, ◌++◌, append_assoc}
use Rattle.lists.specs.Lists.{◌∈◌, All, Pairwise}
use Rattle.lists.specs.ListLaws.{all_elim, all_imp, all_append}
use Rattle.sheet_record.specs.Entry.{header_of, is_bridge}
use Rattle.sheet.specs.Sheet.{Framed, parts_in, part_at, entries_of}
use Rattle.sheet.proofs.FrameLaws.{part_index}
use Rattle.sheet.proofs.IndexLaws.{length_entries}
use Rattle.script_writes.specs.declared.Pass.TheVariants.{Buses, Registers, Commands}
use Rattle.script_writes.specs.Writes.{Write, write_of, three_bytes, bus_writes, pass_writes, writes_of}
use Rattle.script_run.proofs.Written.{bridge_at, pass_member}

-- ## A list cut at an element

module _ {A : Type 0} where
  -- the element stands among the first ones, or after them
  pub cut : (xs ys done : List A) (w : A) (rest : List A) → xs ++ ys ≡ done ++ (w ∷ rest)
      → ((tail : List A) × (xs ≡ done ++ (w ∷ tail))) ⊎ ((more : List A) × (done ≡ xs ++ more))
  cut [] ys done w rest e = inr (done, refl)
  cut (x ∷ xs) ys [] w rest e = inl (xs, let same : x ≡ w = cc in ap (◌∷ xs) same)
  cut (x ∷ xs) ys (d ∷ done) w rest e = go (cut xs ys done w rest (let later : xs ++ ys ≡ done ++ (w ∷ rest) = cc in later))
    where
      head : x ≡ d
      head = cc

      go : ((tail : List A) × (xs ≡ done ++ (w ∷ tail))) ⊎ ((more : List A) × (done ≡ xs ++ more))
          → ((tail : List A) × (x ∷ xs ≡ d ∷ done ++ (w ∷ tail))) ⊎ ((more : List A) × (d ∷ done ≡ x ∷ xs ++ more))
      go (inl (tail, q)) = inl (tail, ap₂ ◌∷◌ head q)
      go (inr (more, q)) = inr (more, ap₂ ◌∷◌ (sym head) q)

  -- what comes before an element in a list that rises stands before it
  before_of_less : (n : A → ℕ) (done : List A) (w : A) (tail : List A) → Pairwise (λ x y. n x < n y) (done ++ (w ∷ tail))
      → (v : A) → v ∈ done ++ (w ∷ tail) → n v < n w → v ∈ done
  before_of_less n done w tail rising v m less = go (Memᴰ.append_cases done m)
    where
      after : (ds : List A) → Pairwise (λ x y. n x < n y) (ds ++ (w ∷ tail)) → All (λ y. n w < n y) tail
      after [] r = r.0
      after (d ∷ ds) r = after ds r.1

      go : (v ∈ done) ⊎ (v ∈ w ∷ tail) → v ∈ done
      go (inl there) = there
      go (inr here) = pick (Memᴰ.cases_cons here)
        where
          pick : (v ≡ w) ⊎ (v ∈ tail) → v ∈ done
          pick (inl same) = absurd (let z : n v ≡ n w = ap n same in omega arith)
          pick (inr later) = absurd (omega (arith, all_elim _ tail (after done rising) later))

-- ## Bus registers come by rising numbers

buses_from : (k : ℕ) (ps : List (List ℕ)) → All (λ w. k ≤ w.number) (pass_writes Buses k ps)
unfolding pass_writes
buses_from k [] = tt
buses_from k (p ∷ ps) =
    all_append _ (bus_writes k p) (pass_writes Buses (suc k) ps) (go (is_bridge (header_of p)))
    (all_imp _ _ (pass_writes Buses (suc k) ps) (buses_from (suc k) ps) (λ w h. omega arith))
  where
    go : (t : Bool) → All (λ w. k ≤ w.number) (cond t (write_of k p 0x18 three_bytes ∷ []) [])
    go true = (omega arith, tt)
    go false = tt

buses_rise : (k : ℕ) (ps : List (List ℕ)) → Pairwise (λ v w. v.number < w.number) (pass_writes Buses k ps)
unfolding pass_writes
buses_rise k [] = tt
buses_rise k (p ∷ ps) = go (is_bridge (header_of p)) (buses_rise (suc k) ps)
  where
    later : All (λ w. k < w.number) (pass_writes Buses (suc k) ps)
    later = all_imp _ _ (pass_writes Buses (suc k) ps) (buses_from (suc k) ps) (λ w h. omega arith)

    go : (t : Bool) → Pairwise (λ v w. v.number < w.number) (pass_writes Buses (suc k) ps)
        → Pairwise (λ v w. v.number < w.number) (cond t (write_of k p 0x18 three_bytes ∷ []) [] ++ pass_writes Buses (suc k) ps)
    go true rest = (later, rest)
    go false rest = rest

-- ## And before the rest

module _ (final : List ℕ) (framed : Framed 1 final) where
  abbrev parts : List (List ℕ)
  parts = parts_in final

  -- the bus registers of the bridge with index k
  abbrev pub bus_write : ℕ → Write
  bus_write k = write_of (k + 1) (part_at final k) 0x18 three_bytes

  bus_member : (k : ℕ) → k < length (entries_of final) → bridge_at final k ≡ true → bus_write k ∈ pass_writes Buses 1 parts
  bus_member k h b =
      let below : k < length parts = omega (arith, length_entries final) in
      let n : 1 + k ≡ k + 1 = omega arith in
      pass_member Buses 1 parts k (bus_write k) below
      (subst (λ (p : List ℕ). bus_write k ∈ bus_writes (1 + k) p) (sym (part_index final k framed below))
      (subst (λ (j : ℕ). bus_write k ∈ bus_writes j (part_at final k)) (sym n) (rw b (Memᴰ.head refl))))

  module _ (done : List Write) (w : Write) (rest : List Write) (at : writes_of parts ≡ done ++ (w ∷ rest)) where
    -- a bridge with a lesser number is written before w
    pub bus_before_lem : (k : ℕ) → k < length (entries_of final) → bridge_at final k ≡ true → k + 1 < w.number → bus_write k ∈ done
    unfolding writes_of
    bus_before_lem k h b less =
        go (cut (pass_writes Buses 1 parts) (pass_writes Registers 1 parts ++ pass_writes Commands 1 parts) done w rest
        (sym (append_assoc (pass_writes Buses 1 parts) (pass_writes Registers 1 parts) (pass_writes Commands 1 parts)) ∙ at))
      where
        go : ((tail : List Write) × (pass_writes Buses 1 parts ≡ done ++ (w ∷ tail)))
            ⊎ ((more : List Write) × (done ≡ pass_writes Buses 1 parts ++ more))
            → bus_write k ∈ done
        go (inl (tail, e)) =
            before_of_less (λ (v : Write). v.number) done w tail
            (subst (Pairwise (λ v u. v.number < u.number)) e (buses_rise 1 parts))
            (bus_write k) (subst (λ (ws : List Write). bus_write k ∈ ws) e (bus_member k h b)) less
        go (inr (more, e)) =
            subst (λ (ws : List Write). bus_write k ∈ ws) (sym e) (Memᴰ.append_left more (bus_member k h b))
