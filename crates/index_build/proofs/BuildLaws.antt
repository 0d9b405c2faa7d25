-- The build in the words of the code: one law for each answer, whichever verdict was asked. Assumes nothing.
use Rattle.std.specs.Prelude.{◌≡◌, refl, List, [], ℕ, ◌≤◌, ◌<◌, length}
use Rattle.std.proofs.Common.{sym, ap₂, ◌∙◌, arith}
use Rattle.std.proofs.Math.Path.{ap}
use borrow.Author.Tests.{eq-eqb, ne_eqb, lt-ltb, le-ltb}
use Rattle.lists.specs.Lists.{All}
use Rattle.lists.specs.ListLaws.{all_map_intro}
use Rattle.endian.specs.Endian.{Bytes}
use Rattle.records.specs.Limits.{most_functions}
use Rattle.pools.specs.declared.Space.TheVariants.{Memory}
use Rattle.board_record.specs.Host.{host_of_part}
use Rattle.sheet.specs.Sheet.{Framed, entries_of}
use Rattle.sheet.proofs.SheetLaws.{checked_of_zero, passes_of_zero}
use Rattle.audit_rule.specs.Host.{host_for}
use Rattle.audit_rule.specs.Audit.{audit_number, sound_number}
use Rattle.audit_rule.specs.Accepted.{OneOwner}
use Rattle.audit_rule.proofs.AcceptedLaws.{one_owner_of_accepted}
use Rattle.audit_rule.proofs.AuditLaws.{audit_iff, sound_iff}
use Rattle.index_layout.specs.Places.{index_size, most_slots}
use Rattle.index_slots.specs.Slots.{Slot, Fits, stored, placed, slots_to, sorted}
use Rattle.index_slots.specs.Cleared.{cleared}
use Rattle.index_slots.specs.ClearedLaws.{length_cleared}
use Rattle.index_slots.specs.SortedLaws.{length_inserted}
use Rattle.index_slots.specs.ReadLaws.{slots_to_stored, stored_over}
use Rattle.index_table.specs.Table.{finished, built}
use Rattle.index_rule.specs.Owners.{owners_of}
use Rattle.index_rule.proofs.WordLaws.{word_small}
use Rattle.index_rule.proofs.LineLaws.{owners_fit}
use Rattle.index_pass.specs.Pass.{slot_of, slots_below}
use Rattle.index_build.specs.Build.{from11, number_after, build_number, sound_build_number, root_of, left_by, index_after, sound_index_after}
use Rattle.index_build.specs.BuildLaws.{Rooted}

-- ## The index filled: what is cleared, then put in, then sorted, then finished

pub filled : (n root : ℕ) (xs : List Slot) (o o₁ o₂ o₃ o₄ : List ℕ) (count : ℕ) → index_size n ≤ length o → All Fits xs
    → length xs ≤ most_slots n → o₁ ≡ cleared n o → (o₂ ≡ placed 0 n xs o₁) × (count ≡ length xs)
    → o₃ ≡ stored n o₂ 1 (sorted (slots_to o₂ n 0 count)) → o₄ ≡ finished n root count o₃ → o₄ ≡ built n root xs o
unfolding built placed
filled n root xs o o₁ o₂ o₃ o₄ count room fits few e (f, c) g h =
    let put : o₂ ≡ stored n (cleared n o) 1 xs = f ∙ ap (λ (t : List ℕ). stored n t 1 xs) e in
    let read : slots_to o₂ n 0 count ≡ xs =
    ap₂ (λ (t : List ℕ) (k : ℕ). slots_to t n 0 k) put c
    ∙ slots_to_stored n (cleared n o) 0 xs (omega (arith, few)) (omega (arith, room, length_cleared n o room)) fits in
    let in_order : o₃ ≡ stored n (cleared n o) 1 (sorted xs) =
    g
    ∙ ap₂ (λ (t : List ℕ) (ys : List Slot). stored n t 1 (sorted ys)) put read
    ∙ stored_over n (cleared n o) 1 xs (sorted xs) (omega (arith, length_inserted [] xs)) (omega (arith, few)) in
    h ∙ ap₂ (finished n root) c in_order

-- ## What a verdict of 0 says of a sheet

pub owned_of_audit : (host s : List ℕ) → Bytes s → (v : ℕ) → v ≡ audit_number host s → v ≡ 0 → OneOwner host s
owned_of_audit host s bytes v is zero = one_owner_of_accepted host s ((audit_iff host s bytes).0 (rw is at zero))

pub owned_of_sound : (host s : List ℕ) → Bytes s → (v : ℕ) → v ≡ sound_number host s → v ≡ 0 → OneOwner host s
owned_of_sound host s bytes v is zero = (sound_iff host s bytes).0 (rw is at zero)

-- ## The answers: v is a verdict's number

pub verdict_refused : (s o : List ℕ) (v : ℕ) → (v ≡ 0 → ⊥) → number_after v s (length o) ≡ v
verdict_refused s o v d = rw (ne_eqb v 0 d)

module _ (host s o : List ℕ) (v : ℕ) where
  pub refused_stays : (v ≡ 0 → ⊥) → left_by (number_after v s (length o)) host s o ≡ o
  refused_stays d = rw (ne_eqb v 0 d, ne_eqb v 0 d)

  module _ (zero : v ≡ 0) (bytes : Bytes s) (a : OneOwner host s) where
    pub framed : Framed 1 s
    framed = (checked_of_zero s a.passes).framed

    pub few : length (entries_of s) ≤ most_functions
    few = (checked_of_zero s a.passes).count

    pub rooted : (root : ℕ) → root ≡ root_of host → Rooted s root
    rooted root e =
        rw e
        (record {
          checked = checked_of_zero s a.passes;
          tree = λ table leads.
              record {
                checked = checked_of_zero s a.passes;
                rise = (passes_of_zero s bytes a.passes).bridges_rise;
                leads = leads;
                host = host_for Memory (host_of_part host);
                root_is = refl;
                tree = a.tree Memory;
              };
        })

    pub slots_fit : Bytes host → (root : ℕ) → root ≡ root_of host → All Fits (slots_below root s)
    slots_fit host_bytes_lem root e =
        rw e
        (all_map_intro Fits slot_of (owners_of host s)
        (λ x m. let f = owners_fit host s host_bytes_lem bytes a x m in (omega (arith, f.start_small), word_small x f)))

    past_verdict : number_after v s (length o) ≡ from11 s (length o)
    past_verdict = rw (eq-eqb v 0 zero)

    module _ (n : ℕ) (count : n ≡ length (entries_of s)) where
      pub too_short : length o < index_size n → number_after v s (length o) ≡ 11
      unfolding from11
      too_short h = past_verdict ∙ rw (← count, lt-ltb (length o) (index_size n) h)

      pub short_stays : length o < index_size n → left_by (number_after v s (length o)) host s o ≡ o
      short_stays h = ap (λ (m : ℕ). left_by m host s o) (too_short h)

      pub built_number : index_size n ≤ length o → number_after v s (length o) ≡ 0
      unfolding from11
      built_number h = past_verdict ∙ rw (← count, le-ltb (length o) (index_size n) h)

      pub built_bytes : index_size n ≤ length o → (root : ℕ) → root ≡ root_of host → (o₁ : List ℕ)
          → o₁ ≡ built n root (slots_below root s) o → o₁ ≡ left_by (number_after v s (length o)) host s o
      built_bytes h root e o₁ f = f ∙ rw (e, count) refl ∙ ap (λ (m : ℕ). left_by m host s o) (sym (built_number h))

-- ## By the audit, and by the second verdict: r and o₁ are what the build gives back and leaves

module _ (host s o : List ℕ) (v r : ℕ) (o₁ : List ℕ)
    (built : (r ≡ number_after v s (length o)) × (o₁ ≡ left_by (number_after v s (length o)) host s o)) where
  pub by_audit : v ≡ audit_number host s → (r ≡ build_number host s (length o)) × (o₁ ≡ index_after host s o)
  unfolding build_number index_after
  by_audit is = rw is at built

  pub by_sound : v ≡ sound_number host s → (r ≡ sound_build_number host s (length o)) × (o₁ ≡ sound_index_after host s o)
  unfolding sound_build_number sound_index_after
  by_sound is = rw is at built

-- For an accepted sheet both builds give one number and leave the same bytes.
module _ (host s o : List ℕ) (bytes : Bytes s) (zero : audit_number host s ≡ 0) where
  verdicts_agree : sound_number host s ≡ audit_number host s
  verdicts_agree =
      (sound_iff host s bytes).1 (one_owner_of_accepted host s ((audit_iff host s bytes).0 zero)) ∙ sym zero

  pub builds_agree : sound_build_number host s (length o) ≡ build_number host s (length o)
  unfolding build_number sound_build_number
  builds_agree = ap (λ (v : ℕ). number_after v s (length o)) verdicts_agree

  pub indexes_agree : sound_index_after host s o ≡ index_after host s o
  unfolding index_after sound_index_after
  indexes_agree = ap (λ (n : ℕ). left_by n host s o) builds_agree
