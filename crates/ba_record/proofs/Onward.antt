-- Steps of a reading: what a fault says of a reading, it says of what goes on from there; many values, one by one.
use Rattle.std.proofs.Common.{◌≡◌, ◌∙◌, subst, ℕ, zero, suc, ◌+◌, ◌-◌, ◌<◌, List, [], ◌∷◌, ◌++◌, ap, refl, sym, append_assoc, append-nil}
use Rattle.std.proofs.Common.{arith, length, take}
use Rattle.std.proofs.lemmas.List.{take_all}
use Rattle.ba_record.specs.declared.fields.FieldFault.{FieldFault}
use Rattle.ba_record.specs.declared.fields.FieldFault.TheVariants as fault
use Rattle.ba_record.specs.Reading.{Reading, read, bad, short, onward, Explains, read_many, read_tree, read_element}

pub explained_onward : {A B : Type 0} (reading : Reading A) (next : A → List ℕ → Reading B) (from : List ℕ) (why : FieldFault)
    → Explains reading from why → Explains (onward reading next) from why
explained_onward reading next from fault.Memory e = tt
explained_onward reading next from fault.Bad e = ap (λ r. onward r next) e
explained_onward reading next from fault.Short e = ap (λ r. onward r next) e

-- what a fault says where it is known
pub was_bad : {A : Type 0} (reading : Reading A) (from : List ℕ) (why : FieldFault) → why ≡ fault.Bad → Explains reading from why
    → reading ≡ bad from
was_bad reading from why is e = subst (λ (w : FieldFault). Explains reading from w) is e

pub was_short : {A : Type 0} (reading : Reading A) (from : List ℕ) (why : FieldFault) → why ≡ fault.Short → Explains reading from why
    → reading ≡ short
was_short reading from why is e = subst (λ (w : FieldFault). Explains reading from w) is e

-- a reading that is bad, at bytes that are these
pub bad_at : {A : Type 0} (reading : Reading A) (field from : List ℕ) (why : FieldFault) → reading ≡ bad field → why ≡ fault.Bad
    → from ≡ field → Explains reading from why
bad_at reading field from why e is same = subst (λ (w : FieldFault). Explains reading from w) (sym is)
    (e ∙ ap (λ (xs : List ℕ). bad xs) (sym same))

-- a reading of many values, behind those that were read before
abbrev pub behind : {A : Type 0} → List A → Reading (List A) → Reading (List A)
behind before reading = onward reading (λ more after. read (before ++ more) after)

behind_one_more : {A : Type 0} (before : List A) (a : A) (reading : Reading (List A))
    → behind before (onward reading (λ more after. read (a ∷ more) after)) ≡ behind (before ++ a ∷ []) reading
behind_one_more before a (read more after) = ap (λ xs. read xs after) (sym (append_assoc before (a ∷ []) more))
behind_one_more before a (bad from) = refl
behind_one_more before a short = refl

module _ {A : Type 0} (value : List ℕ → Reading A) where
  -- one value more was read
  pub many_goes_on : (n k : ℕ) (bytes rest : List ℕ) (a : A) (before : List A) → k < n → value bytes ≡ read a rest
      → behind before (read_many value (n - k) bytes) ≡ behind (before ++ a ∷ []) (read_many value (n - (k + 1)) rest)
  many_goes_on n k bytes rest a before more is =
      let left : n - k ≡ suc (n - (k + 1)) = omega arith in
      rw (left, is) (behind_one_more before a (read_many value (n - (k + 1)) rest))

  -- a value wasn't read
  pub many_stops : (n k : ℕ) (bytes from : List ℕ) (why : FieldFault) (before : List A) → k < n → Explains (value bytes) from why
      → Explains (behind before (read_many value (n - k) bytes)) from why
  many_stops n k bytes from why before more e =
      let left : n - k ≡ suc (n - (k + 1)) = omega arith in
      rw left (explained_onward _ _ from why (explained_onward _ _ from why e))

  -- all were read
  pub many_ends : (n : ℕ) (bytes : List ℕ) (before : List A) → behind before (read_many value (n - n) bytes) ≡ read before bytes
  many_ends n bytes before =
      let left : n - n ≡ 0 = omega arith in
      rw left (ap (λ xs. read xs bytes) (append-nil before))

-- a tree of some levels is an element whose children have one less
pub tree_below : (levels : ℕ) (bytes : List ℕ) → 0 < levels → read_tree levels bytes ≡ read_element (read_tree (levels - 1)) bytes
unfolding read_tree
tree_below zero bytes some = absurd (omega arith)
tree_below (suc levels) bytes some = let one_less : suc levels - 1 ≡ levels = omega arith in rw one_less refl

-- none were read yet
pub behind_nothing : {A : Type 0} (reading : Reading (List A)) → behind [] reading ≡ reading
behind_nothing (read more after) = refl
behind_nothing (bad from) = refl
behind_nothing short = refl

pub many_begin : {A : Type 0} (value : List ℕ → Reading A) (n : ℕ) (bytes : List ℕ)
    → behind [] (read_many value (n - 0) bytes) ≡ read_many value n bytes
many_begin value n bytes = let all : n - 0 ≡ n = omega arith in rw all (behind_nothing (read_many value n bytes))

-- the first bytes of few are all of them
pub all_of_few : (n : ℕ) (bytes : List ℕ) → length bytes < n → bytes ≡ take n bytes
all_of_few n bytes few = sym (take_all n bytes (omega arith))

-- there is no tree of no levels
pub no_levels : (levels : ℕ) (bytes : List ℕ) → levels ≡ 0 → read_tree levels bytes ≡ short
unfolding read_tree
no_levels zero bytes none = refl
no_levels (suc levels) bytes none = absurd (omega arith)
