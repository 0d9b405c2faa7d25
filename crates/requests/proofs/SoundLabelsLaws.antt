-- `SoundLabels` holds: by the second verdict as by any other, and of a sheet alone as under the host record that is made for it. Assumes
-- nothing.
use Rattle.std.specs.Prelude.{◌≡◌, refl, ◌↔◌, Bool, true, false, List, ℕ, ◌≤◌, ◌<◌, length, get_or, eqb}
use Rattle.std.proofs.Common.{sym, ap, subst, ◌∙◌, eqb-true}
use Rattle.std.proofs.lemmas.Bool.{eqb-false}
use Rattle.endian.specs.Endian.{Bytes}
use Rattle.sheet.specs.Sheet.{sheet_number}
use Rattle.route.specs.Route.{root}
use Rattle.audit_rule.specs.Audit.{sound_number}
use Rattle.audit_rule.specs.Accepted.{OneOwner}
use Rattle.any_host.specs.AnyHost.{host_alone}
use Rattle.any_host.specs.AnyHostLaws.{owned_alone, bytes_any, root_is_byte}
use Rattle.index_build.specs.Build.{sound_build_number, sound_index_after}
use Rattle.index_build.proofs.BuildLaws.{builds_agree, indexes_agree}
use Rattle.index_alone.specs.Alone.{alone_number, alone_build_number, alone_index_after}
use Rattle.index_alone.proofs.AloneLaws.{refused_number, refused_build, checked_number, checked_build, alone_iff, alone_search_is_route}
use Rattle.trace.specs.declared.Trace.{Trace}
use Rattle.trace_line.specs.declared.Finder.TheVariants.{Index}
use Rattle.trace_line.specs.Line.{line_over}
use Rattle.trace_line.specs.Finder.{line_by}
use Rattle.requests.specs.Trace.{told}
use Rattle.requests.specs.FastLabels.{index_bytes, ListedAlike, FedAlike}
use Rattle.requests.proofs.FastLabelsLaws.{labels_by_sound}
use Rattle.requests.specs.SoundLabels.{OwnedBySome, IsBuiltAlone, SoundLabels}

module _ (s room : List ℕ) where
  abbrev number : ℕ
  number = alone_build_number s (length room)

  abbrev index : List ℕ
  index = alone_index_after s room

  -- past the sheet's own checks the verdict, the build's number and what it leaves are those under the host that is made
  module _ (passes : sheet_number s ≡ 0) where
    same_verdict : sound_number (host_alone s) s ≡ alone_number s
    same_verdict = checked_number s s passes (root s) refl (host_alone s) refl (sound_number (host_alone s) s) refl

    same_build : (sound_build_number (host_alone s) s (length room) ≡ number) × (sound_index_after (host_alone s) s room ≡ index)
    same_build =
        checked_build s room passes (root s) refl (host_alone s) refl (sound_build_number (host_alone s) s (length room))
        (sound_index_after (host_alone s) s room) (refl, refl)

  passes_of_number : alone_number s ≡ 0 → sheet_number s ≡ 0
  passes_of_number zero = go (eqb (sheet_number s) 0) refl
    where
      go : (b : Bool) → eqb (sheet_number s) 0 ≡ b → sheet_number s ≡ 0
      go true e = eqb-true (sheet_number s) 0 e
      go false e = absurd (eqb-false (sheet_number s) 0 e (sym (refused_number s s (eqb-false (sheet_number s) 0 e)) ∙ zero))

  passes_of_build : number ≡ 0 → sheet_number s ≡ 0
  passes_of_build done = go (eqb (sheet_number s) 0) refl
    where
      go : (b : Bool) → eqb (sheet_number s) 0 ≡ b → sheet_number s ≡ 0
      go true e = eqb-true (sheet_number s) 0 e
      go false e = absurd (eqb-false (sheet_number s) 0 e (sym (refused_build s room (eqb-false (sheet_number s) 0 e)).0 ∙ done))

  -- ## Where an index was built

  module _ (bytes : Bytes s) (done : number ≡ 0) where
    built : sound_build_number (host_alone s) s (length room) ≡ 0
    built = (same_build (passes_of_build done)).0 ∙ done

    index_is : sound_index_after (host_alone s) s room ≡ index
    index_is = (same_build (passes_of_build done)).1

    owned : OneOwner (host_alone s) s
    owned = ((labels_by_sound.built_exactly (host_alone s) s room bytes).0 built).0

    host_bytes_lem : Bytes (host_alone s)
    host_bytes_lem = bytes_any (root s) (root_is_byte s owned)

    alone_lists : (header list : List ℕ) → ListedAlike header index s list
    alone_lists header list =
        subst (λ (i : List ℕ). ListedAlike header i s list) index_is
        (labels_by_sound.lists_equal (host_alone s) s room host_bytes_lem bytes built header list)

    alone_traces : (pieces : List (List ℕ)) → told (line_by Index index) pieces ≡ told (line_over s) pieces
    alone_traces pieces =
        ap (λ (i : List ℕ). told (line_by Index i) pieces) (sym index_is)
        ∙ labels_by_sound.traces_equal (host_alone s) s room host_bytes_lem bytes built pieces

    alone_pieces : (t : Trace) (piece out : List ℕ) → FedAlike index s t piece out
    alone_pieces t piece out =
        subst (λ (i : List ℕ). FedAlike i s t piece out) index_is
        (labels_by_sound.pieces_equal (host_alone s) s room host_bytes_lem bytes built t piece out)

  alone_built_exactly : Bytes s → (number ≡ 0) ↔ (OwnedBySome s × (index_bytes s ≤ length room))
  alone_built_exactly bytes = (forward, backward)
    where
      forward : number ≡ 0 → OwnedBySome s × (index_bytes s ≤ length room)
      forward done = (
        (host_alone s, host_bytes_lem bytes done, owned bytes done),
        ((labels_by_sound.built_exactly (host_alone s) s room bytes).0 (built bytes done)).1,
      )

      backward : OwnedBySome s × (index_bytes s ≤ length room) → number ≡ 0
      backward ((host, host_bytes_lem, a), enough) =
          sym (same_build a.passes).0
          ∙ (labels_by_sound.built_exactly (host_alone s) s room bytes).1 (owned_alone host s host_bytes_lem bytes a, enough)

  -- ## Where none was

  alone_refused : ¬ (alone_number s ≡ 0) → (number ≡ alone_number s) × (index ≡ room)
  alone_refused refused = go (eqb (sheet_number s) 0) refl
    where
      go : (b : Bool) → eqb (sheet_number s) 0 ≡ b → (number ≡ alone_number s) × (index ≡ room)
      go true e =
          let passes = eqb-true (sheet_number s) 0 e in
          let same = same_build passes in
          let r = labels_by_sound.refused_by_verdict (host_alone s) s room (λ z. refused (sym (same_verdict passes) ∙ z)) in
          (sym same.0 ∙ r.0 ∙ same_verdict passes, sym same.1 ∙ r.1)
      go false e =
          let fails = eqb-false (sheet_number s) 0 e in
          let r = refused_build s room fails in
          (r.0 ∙ sym (refused_number s s fails), r.1)

  alone_short_exactly : alone_number s ≡ 0 → (number ≡ 11) ↔ (length room < index_bytes s)
  alone_short_exactly zero =
      let passes = passes_of_number zero in
      subst (λ (n : ℕ). (n ≡ 11) ↔ (length room < index_bytes s)) (same_build passes).0
      (labels_by_sound.short_exactly (host_alone s) s room (same_verdict passes ∙ zero))

  alone_short_stays : number ≡ 11 → index ≡ room
  alone_short_stays eleven = go (eqb (sheet_number s) 0) refl
    where
      go : (b : Bool) → eqb (sheet_number s) 0 ≡ b → index ≡ room
      go true e =
          let same = same_build (eqb-true (sheet_number s) 0 e) in
          sym same.1 ∙ labels_by_sound.short_stays (host_alone s) s room (same.0 ∙ eleven)
      go false e = (refused_build s room (eqb-false (sheet_number s) 0 e)).1

  -- ## The slice

  abbrev Stays : List ℕ → Type 0
  Stays i = (length i ≡ length room) × ((k : ℕ) → index_bytes s ≤ k → get_or i k 0 ≡ get_or room k 0)

  -- a verdict of 0 makes the host's bytes bytes; by any other nothing changes
  alone_past_stays : Bytes s → Stays index
  alone_past_stays bytes = go (eqb (alone_number s) 0) refl
    where
      go : (b : Bool) → eqb (alone_number s) 0 ≡ b → Stays index
      go true e =
          let zero = eqb-true (alone_number s) 0 e in
          let passes = passes_of_number zero in
          let (other, other_bytes, a) = (alone_iff s bytes).0 zero in
          let made = owned_alone other s other_bytes bytes a in
          subst Stays (same_build passes).1
          (labels_by_sound.past_stays (host_alone s) s room (bytes_any (root s) (root_is_byte s made)) bytes)
      go false e = subst Stays (sym (alone_refused (eqb-false (alone_number s) 0 e)).1) (refl, λ k past. refl)

pub sound_labels : SoundLabels
sound_labels =
    record {
      labels = labels_by_sound;
      accepted_same = λ host s room bytes zero. (builds_agree host s room bytes zero, indexes_agree host s room bytes zero);
      alone_exactly = alone_iff;
      alone_built_exactly = alone_built_exactly;
      alone_answers = alone_search_is_route;
      alone_lists = alone_lists;
      alone_traces = alone_traces;
      alone_pieces = alone_pieces;
      alone_refused = alone_refused;
      alone_short_exactly = alone_short_exactly;
      alone_short_stays = alone_short_stays;
      alone_past_stays = alone_past_stays;
    }
