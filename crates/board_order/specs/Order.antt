-- Document 01, "The board": parents, order, depth and function 0 (23), each said of one function and the records before it.
-- Records before a function stand nearest first; n is the number of the nearest, and so of all of them. Assumes nothing.
use Rattle.std.specs.Prelude.{ℕ, zero, suc, ◌/◌, ◌%◌, Bool, false, cond, not, ◌&&◌, ◌||◌, Option, None, Some, List, [], ◌∷◌, ◌++◌, length, eqb, ltb}
use Rattle.lists.specs.Lists.{any}
use Rattle.records.specs.Limits.{most_above}
use Rattle.board_record.specs.declared.Function.{Function}
use Rattle.board_record.specs.Function.{is_bridge}

-- the bridges above a function with parent p: its parent record, that one's parent and so on, stopping short of the host
unfoldable pub above : ℕ → ℕ → List Function → List ℕ
above zero p before = []
above (suc n) p [] = []
above (suc n) p (g ∷ before) =
    let rest = above n (cond (eqb p (suc n)) g.parent p) before in
    cond (eqb p (suc n)) (p ∷ rest) rest

-- depth-first: the next record's parent is the record before, if it is a bridge, or a bridge above that one, or the host
unfoldable pub parents : ℕ → List Function → List ℕ
parents zero before = 0 ∷ []
parents (suc n) [] = 0 ∷ []
parents (suc n) (g ∷ before) = let rest = above n g.parent before ++ 0 ∷ [] in cond (is_bridge g) (suc n ∷ rest) rest

-- siblings have one parent; "in rising device/function order": each above the sibling just before it, told by one more than its
-- device/function
unfoldable pub last_sibling : ℕ → List Function → ℕ
last_sibling p [] = 0
last_sibling p (g ∷ before) = let earlier = last_sibling p before in cond (eqb g.parent p) (suc g.devfn) earlier

-- "A device has function 0, with header type bit 7 set if there are others"
abbrev pub is_shared : Function → Bool
is_shared g = eqb (g.devfn % 8) 0 && eqb (g.header / 128) 1

abbrev pub is_function_zero : ℕ → ℕ → Function → Bool
is_function_zero p device g = eqb g.parent p && eqb (g.devfn / 8) device && is_shared g

abbrev pub has_function_zero : List Function → Function → Bool
has_function_zero before f = eqb (f.devfn % 8) 0 || any (is_function_zero f.parent (f.devfn / 8)) before

-- "at most 32 bridges above any" is `most_above`
unfoldable pub misplaced : ℕ → List Function → Function → Bool
misplaced n before f =
    not (any (eqb f.parent) (parents n before))
    || ltb f.devfn (last_sibling f.parent before)
    || ltb most_above (length (above n f.parent before))
    || not (has_function_zero before f)

-- 23, of functions with these records before them
unfoldable pub any_misplaced : ℕ → List Function → List Function → Bool
any_misplaced n before [] = false
any_misplaced n before (f ∷ fs) = let later = any_misplaced (suc n) (f ∷ before) fs in misplaced n before f || later

-- a number as an option: none for 0
abbrev pub some_number : ℕ → Option ℕ
some_number zero = None
some_number (suc n) = Some (suc n)

-- the number of the first that is, 0 where none is
unfoldable pub first_misplaced : ℕ → List Function → List Function → ℕ
first_misplaced n before [] = 0
first_misplaced n before (f ∷ fs) = let later = first_misplaced (suc n) (f ∷ before) fs in cond (misplaced n before f) (suc n) later
