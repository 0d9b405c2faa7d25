-- A sheet alone is let through exactly where some host has one owner for every address of it, and its index is the router. Assumes nothing.
use Rattle.std.specs.Prelude.{◌≡◌, refl, ◌↔◌, Bool, true, false, cond, ◌||◌, List, ℕ, ◌<◌, length, eqb, ltb}
use Rattle.std.proofs.Common.{sym, ap, ◌∙◌, arith}
use borrow.Author.Tests.{eq-eqb, ne_eqb, eqb-true, eqb-false, ltb-false}
use Rattle.endian.specs.Endian.{Bytes}
use Rattle.sheet.specs.Sheet.{sheet_number}
use Rattle.route.specs.Route.{root, route_of}
use Rattle.audit_rule.specs.Audit.{sound_number}
use Rattle.audit_rule.specs.Accepted.{OneOwner}
use Rattle.audit_rule.proofs.AuditLaws.{sound_iff}
use Rattle.any_host.specs.AnyHost.{any_host, host_alone}
use Rattle.any_host.specs.AnyHostLaws.{owned_alone, bytes_any, root_is_byte}
use Rattle.index_search.specs.Search.{search_of}
use Rattle.index_build.specs.Build.{sound_build_number, sound_index_after}
use Rattle.index_build.proofs.BuiltLaws.{zero_elim, sound_search_is_route}
use Rattle.index_alone.specs.Alone.{alone_number, alone_build_number, alone_index_after}

-- ## In the words of the code

module _ (s o : List ℕ) where
  pub refused_number : ¬ (sheet_number s ≡ 0) → alone_number s ≡ sheet_number s
  unfolding alone_number
  refused_number d = rw (ne_eqb (sheet_number s) 0 d)

  pub refused_build : ¬ (sheet_number s ≡ 0) → (alone_build_number s (length o) ≡ sheet_number s) × (alone_index_after s o ≡ o)
  unfolding alone_build_number alone_index_after
  refused_build d = (rw (ne_eqb (sheet_number s) 0 d), rw (ne_eqb (sheet_number s) 0 d))

  -- the host record that was made, of the root bus that was read
  module _ (z : sheet_number s ≡ 0) (first : ℕ) (is_root : first ≡ root s) (host : List ℕ) (made : host ≡ any_host first) (r : ℕ) where
    host_is : host ≡ host_alone s
    host_is = made ∙ ap any_host is_root

    pub checked_number : r ≡ sound_number host s → r ≡ alone_number s
    unfolding alone_number
    checked_number e = e ∙ rw (host_is, eq-eqb (sheet_number s) 0 z)

    pub checked_build : (o₁ : List ℕ) → (r ≡ sound_build_number host s (length o)) × (o₁ ≡ sound_index_after host s o)
        → (r ≡ alone_build_number s (length o)) × (o₁ ≡ alone_index_after s o)
    unfolding alone_build_number alone_index_after
    checked_build o₁ (d, e) = (d ∙ rw (host_is, eq-eqb (sheet_number s) 0 z), e ∙ rw (host_is, eq-eqb (sheet_number s) 0 z))

-- ## Which sheets

own_zero : (s : List ℕ) → alone_number s ≡ 0 → (sheet_number s ≡ 0) × (sound_number (host_alone s) s ≡ 0)
unfolding alone_number
own_zero s e = go (eqb (sheet_number s) 0) refl e
  where
    go : (t : Bool) → eqb (sheet_number s) 0 ≡ t → cond t (sound_number (host_alone s) s) (sheet_number s) ≡ 0
        → (sheet_number s ≡ 0) × (sound_number (host_alone s) s ≡ 0)
    go true d z = (eqb-true (sheet_number s) 0 d, z)
    go false d z = absurd (eqb-false (sheet_number s) 0 d z)

pub alone_iff : (s : List ℕ) → Bytes s → (alone_number s ≡ 0) ↔ ((host : List ℕ) × Bytes host × OneOwner host s)
alone_iff s bytes = (forward, backward)
  where
    forward : alone_number s ≡ 0 → (host : List ℕ) × Bytes host × OneOwner host s
    forward e =
        let a = (sound_iff (host_alone s) s bytes).0 (own_zero s e).1 in
        (host_alone s, bytes_any (root s) (root_is_byte s a), a)

    backward : (host : List ℕ) × Bytes host × OneOwner host s → alone_number s ≡ 0
    backward (host, host_bytes_lem, a) =
        sym (checked_number s s a.passes (root s) refl (host_alone s) refl (sound_number (host_alone s) s) refl)
        ∙ (sound_iff (host_alone s) s bytes).1 (owned_alone host s host_bytes_lem bytes a)

-- ## Its index

built_owned : (host s o : List ℕ) → Bytes s → sound_build_number host s (length o) ≡ 0 → OneOwner host s
unfolding sound_build_number
built_owned host s o bytes done = (sound_iff host s bytes).0 (zero_elim (sound_number host s) s (length o) done).0

pub alone_search_is_route : (s o : List ℕ) → Bytes s → alone_build_number s (length o) ≡ 0
    → (header : List ℕ) → search_of header (alone_index_after s o) ≡ route_of header s
unfolding alone_build_number alone_index_after
alone_search_is_route s o bytes = go (eqb (sheet_number s) 0) refl
  where
    go : (t : Bool) → eqb (sheet_number s) 0 ≡ t → cond t (sound_build_number (host_alone s) s (length o)) (sheet_number s) ≡ 0
        → (header : List ℕ) → search_of header (cond t (sound_index_after (host_alone s) s o) o) ≡ route_of header s
    go true d done =
        let a = built_owned (host_alone s) s o bytes done in
        sound_search_is_route (host_alone s) s o (bytes_any (root s) (root_is_byte s a)) bytes done
    go false d done = absurd (eqb-false (sheet_number s) 0 d done)
