-- Codings that are read back: what a reading makes of bytes is a value in its range whose coding they begin with, and
-- each such value is read from its coding.
use Rattle.std.proofs.Common.{◌≡◌, ℕ, zero, suc, ◌+◌, ◌^◌, ◌<◌, ◌≤◌, Bool, true, false, nat_le, nat_eq, Option, None, Some, List, [], ◌∷◌}
use Rattle.std.proofs.Common.{◌++◌, length, take, drop, map, get_or, ap, refl, sym, ◌∙◌, subst, append_assoc, arith, length-append}
use Rattle.std.proofs.lemmas.Bool.{leb-true, eqb-true, le-leb, cond_both}
use Rattle.std.proofs.lemmas.List.{take-append-drop, length-take-le, get_or-drop}
use Rattle.std.proofs.Math.Seq.{take-append_seam, drop-append_seam}
use Rattle.std.proofs.lemmas.Nat.{from_le_bytes-to_le_bytes_2, from_le_bytes-to_le_bytes_4, from_le_bytes-to_le_bytes_8, le_bytes_2}
use Rattle.std.proofs.lemmas.Nat.{le_bytes_4, le_bytes_8}
use Rattle.std.proofs.Math.Nat.{mod-eq_of_lt}
use Rattle.std.specs.Int.{w8, w16, w32, w64, to_le_bytes, from_le_bytes}
use Rattle.ba_tree.specs.Trees.{joined}
use Rattle.ba_record.specs.Coding.{string_coding, option_coding}
use Rattle.ba_record.specs.Reading.{IsBytes, Reading, read, bad, short, onward, tested, found, read_front, read_byte, read_number}
use Rattle.ba_record.specs.Reading.{read_string, with_code, read_coded, optional, read_option, read_many}

pub bytes_after : (front rest bytes : List ℕ) → IsBytes bytes → bytes ≡ front ++ rest → IsBytes rest
bytes_after front rest bytes are is i =
    let behind : drop (length front) bytes ≡ rest = ap (drop (length front)) is ∙ drop-append_seam front rest in
    let at : get_or rest i 0 ≡ get_or bytes (length front + i) 0 =
    ap (λ xs. get_or xs i 0) (sym behind) ∙ get_or-drop (length front) bytes i 0 in
    let small : get_or bytes (length front + i) 0 < 256 = are (length front + i) in
    omega arith

bytes_before : (front rest : List ℕ) → IsBytes (front ++ rest) → IsBytes front
bytes_before [] rest are i = omega arith
bytes_before (x ∷ front) rest are zero = are 0
bytes_before (x ∷ front) rest are (suc i) = bytes_before front rest (λ j. are (suc j)) i

-- the first of some bytes are bytes
pub front_bytes : (n : ℕ) (bytes : List ℕ) → IsBytes bytes → IsBytes (take n bytes)
front_bytes n bytes are = bytes_before (take n bytes) (drop n bytes) (subst IsBytes (sym (take-append-drop n bytes)) are)

pub record IsExact {A : Type 0} (f : List ℕ → Reading A) (coding : A → List ℕ) (R : A → Type 0) : Type 0 where
  pub sound : (bytes rest : List ℕ) (a : A) → IsBytes bytes → f bytes ≡ read a rest → R a × (bytes ≡ coding a ++ rest)
  pub complete : (a : A) (rest : List ℕ) → R a → f (coding a ++ rest) ≡ read a rest

-- how the bytes went on behind a value
pub record Went {A B : Type 0} (coding : A → List ℕ) (R : A → Type 0) (bytes : List ℕ) (next : A → List ℕ → Reading B) (b : B)
    (out : List ℕ) : Type 0 where
  pub value : A
  pub rest : List ℕ
  pub in_range : R value
  pub spelled : bytes ≡ coding value ++ rest
  pub are_bytes : IsBytes rest
  pub on : next value rest ≡ read b out

module _ {A B : Type 0} {f : List ℕ → Reading A} {coding : A → List ℕ} {R : A → Type 0} (exact : IsExact f coding R)
    (next : A → List ℕ → Reading B) where
  went_from : (bytes : List ℕ) (b : B) (out : List ℕ) → IsBytes bytes → (reading : Reading A) → f bytes ≡ reading
      → onward reading next ≡ read b out
      → Went coding R bytes next b out
  went_from bytes b out are (read a rest) is e =
      let here = exact.sound bytes rest a are is in
      record {
        value = a;
        rest = rest;
        in_range = here.0;
        spelled = here.1;
        are_bytes = bytes_after (coding a) rest bytes are here.1;
        on = e;
      }
  went_from bytes b out are (bad from) is e = absurd (cc)
  went_from bytes b out are short is e = absurd (cc)

  pub went : (bytes : List ℕ) (b : B) (out : List ℕ) → IsBytes bytes → onward (f bytes) next ≡ read b out → Went coding R bytes next b out
  went bytes b out are e = went_from bytes b out are (f bytes) refl e

  pub goes : (a : A) (rest : List ℕ) → R a → onward (f (coding a ++ rest)) next ≡ next a rest
  goes a rest in_range = ap (λ r. onward r next) (exact.complete a rest in_range)

  pub goes_on : (a : A) (rest : List ℕ) → R a → {x : Reading B} → next a rest ≡ x → onward (f (coding a ++ rest)) next ≡ x
  goes_on a rest in_range on = goes a rest in_range ∙ on

-- ---- numbers and strings

front_sound : (n : ℕ) (bytes rest xs : List ℕ) → read_front n bytes ≡ read xs rest → (length xs ≡ n) × (bytes ≡ xs ++ rest)
front_sound n bytes rest xs =
    cond_both (nat_le n (length bytes)) (read (take n bytes) (drop n bytes)) short
    (λ r. r ≡ read xs rest → (length xs ≡ n) × (bytes ≡ xs ++ rest))
    (λ enough e.
    let front : take n bytes ≡ xs = cc in
    let behind : drop n bytes ≡ rest = cc in (
      ap length (sym front)
          ∙ length-take-le n bytes (leb-true n (length bytes) enough),
      subst (λ (p : List ℕ). bytes ≡ p ++ rest) front
          (subst (λ (p : List ℕ). bytes ≡ take n bytes ++ p) behind (sym (take-append-drop n bytes))),
    ))
    (λ few e. absurd (cc))

front_complete : (xs rest : List ℕ) → read_front (length xs) (xs ++ rest) ≡ read xs rest
front_complete xs rest =
    let enough : length xs ≤ length (xs ++ rest) = omega (arith, length-append xs rest) in
    rw (le-leb (length xs) (length (xs ++ rest)) enough) (λ i. read (take-append_seam xs rest i) (drop-append_seam xs rest i))

pub exact_front : (n : ℕ) → IsExact (read_front n) (λ xs. xs) (λ xs. length xs ≡ n)
exact_front n = record {
  sound = λ bytes rest xs are e. front_sound n bytes rest xs e;
  complete = λ xs rest e. subst (λ (m : ℕ). read_front m (xs ++ rest) ≡ read xs rest) e (front_complete xs rest);
}

pub exact_byte : IsExact read_byte (λ n. n ∷ []) (λ n. n < 256)
exact_byte = record { sound = byte_sound; complete = λ n rest small. refl }
  where
    byte_sound : (bytes rest : List ℕ) (n : ℕ) → IsBytes bytes → read_byte bytes ≡ read n rest → (n < 256) × (bytes ≡ n ∷ rest)
    byte_sound [] rest n are e = absurd (cc)
    byte_sound (byte ∷ more) rest n are e =
        let same : byte ≡ n = cc in
        let after : more ≡ rest = cc in
        let small : byte < 256 = are 0 in
        (omega arith, cc)

-- a count of one byte
pub exact_count : IsExact read_byte (to_le_bytes w8) (λ n. n < 256)
exact_count = record {
  sound = λ bytes rest n are e. let here =
      exact_byte.sound bytes rest n are e in (here.0, here.1 ∙ ap (λ (m : ℕ). m ∷ rest) (sym (mod-eq_of_lt here.0)));
  complete = λ n rest small. ap (λ (m : ℕ). read m rest) (mod-eq_of_lt small);
}

pub digits_are : (bytes digits rest : List ℕ) → IsBytes bytes → bytes ≡ digits ++ rest → IsBytes digits
digits_are bytes digits rest are is = bytes_before digits rest (subst IsBytes is are)

pub exact_16 : IsExact (read_number w16) (to_le_bytes w16) (λ n. n < 2 ^ 16)
exact_16 =
    record {
      sound = sound;
      complete = λ n rest small. goes (exact_front 2) (λ digits after. read (from_le_bytes w16 digits) after)
          (to_le_bytes w16 n) rest refl ∙ ap (λ (m : ℕ). read m rest) (from_le_bytes-to_le_bytes_2 n small);
    }
  where
    sound : (bytes rest : List ℕ) (n : ℕ) → IsBytes bytes → read_number w16 bytes ≡ read n rest → (n < 2 ^ 16)
        × (bytes ≡ to_le_bytes w16 n ++ rest)
    sound bytes rest n are e =
        let g = went (exact_front 2) (λ digits after. read (from_le_bytes w16 digits) after) bytes n rest are e in
        let on : read (from_le_bytes w16 g.value) g.rest ≡ read n rest = g.on in
        let number : from_le_bytes w16 g.value ≡ n = cc in
        let after : g.rest ≡ rest = cc in
        let small = digits_are bytes g.value g.rest are g.spelled in
        let digits : to_le_bytes w16 n ≡ g.value = le_bytes_2 g.value n g.in_range small (sym number) in
        let b0 : get_or g.value 0 0 < 256 = small 0 in
        let b1 : get_or g.value 1 0 < 256 = small 1 in
        (omega (arith, number), g.spelled ∙ (λ i. sym digits i ++ after i))

pub exact_32 : IsExact (read_number w32) (to_le_bytes w32) (λ n. n < 2 ^ 32)
exact_32 =
    record {
      sound = sound;
      complete = λ n rest small. goes (exact_front 4) (λ digits after. read (from_le_bytes w32 digits) after)
          (to_le_bytes w32 n) rest refl ∙ ap (λ (m : ℕ). read m rest) (from_le_bytes-to_le_bytes_4 n small);
    }
  where
    sound : (bytes rest : List ℕ) (n : ℕ) → IsBytes bytes → read_number w32 bytes ≡ read n rest → (n < 2 ^ 32)
        × (bytes ≡ to_le_bytes w32 n ++ rest)
    sound bytes rest n are e =
        let g = went (exact_front 4) (λ digits after. read (from_le_bytes w32 digits) after) bytes n rest are e in
        let on : read (from_le_bytes w32 g.value) g.rest ≡ read n rest = g.on in
        let number : from_le_bytes w32 g.value ≡ n = cc in
        let after : g.rest ≡ rest = cc in
        let small = digits_are bytes g.value g.rest are g.spelled in
        let digits : to_le_bytes w32 n ≡ g.value = le_bytes_4 g.value n g.in_range small (sym number) in
        let b0 : get_or g.value 0 0 < 256 = small 0 in
        let b1 : get_or g.value 1 0 < 256 = small 1 in
        let b2 : get_or g.value 2 0 < 256 = small 2 in
        let b3 : get_or g.value 3 0 < 256 = small 3 in
        (omega (arith, number), g.spelled ∙ (λ i. sym digits i ++ after i))

pub exact_64 : IsExact (read_number w64) (to_le_bytes w64) (λ n. n < 2 ^ 64)
exact_64 =
    record {
      sound = sound;
      complete = λ n rest small. goes (exact_front 8) (λ digits after. read (from_le_bytes w64 digits) after)
          (to_le_bytes w64 n) rest refl ∙ ap (λ (m : ℕ). read m rest) (from_le_bytes-to_le_bytes_8 n small);
    }
  where
    sound : (bytes rest : List ℕ) (n : ℕ) → IsBytes bytes → read_number w64 bytes ≡ read n rest → (n < 2 ^ 64)
        × (bytes ≡ to_le_bytes w64 n ++ rest)
    sound bytes rest n are e =
        let g = went (exact_front 8) (λ digits after. read (from_le_bytes w64 digits) after) bytes n rest are e in
        let on : read (from_le_bytes w64 g.value) g.rest ≡ read n rest = g.on in
        let number : from_le_bytes w64 g.value ≡ n = cc in
        let after : g.rest ≡ rest = cc in
        let small = digits_are bytes g.value g.rest are g.spelled in
        let digits : to_le_bytes w64 n ≡ g.value = le_bytes_8 g.value n g.in_range small (sym number) in
        let b0 : get_or g.value 0 0 < 256 = small 0 in
        let b1 : get_or g.value 1 0 < 256 = small 1 in
        let b2 : get_or g.value 2 0 < 256 = small 2 in
        let b3 : get_or g.value 3 0 < 256 = small 3 in
        let b4 : get_or g.value 4 0 < 256 = small 4 in
        let b5 : get_or g.value 5 0 < 256 = small 5 in
        let b6 : get_or g.value 6 0 < 256 = small 6 in
        let b7 : get_or g.value 7 0 < 256 = small 7 in
        (omega (arith, number), g.spelled ∙ (λ i. sym digits i ++ after i))

-- ---- several fields

-- a length or a count, and then so many
abbrev pub IsString : List ℕ → Type 0
IsString bytes = length bytes < 2 ^ 16

pub exact_string : IsExact read_string string_coding IsString
exact_string = record {
  sound = λ bytes rest s are e.
      let g = went exact_16 read_front bytes s rest are e in
      let here = (exact_front g.value).sound g.rest rest s g.are_bytes g.on in (
        subst (λ n. n < 2 ^ 16) (sym here.0) g.in_range,
        g.spelled ∙ (λ i. to_le_bytes w16 (sym here.0 i) ++ here.1 i) ∙ sym (append_assoc (to_le_bytes w16 (length s)) s rest),
      );
  complete = λ s rest small.
      ap read_string (append_assoc (to_le_bytes w16 (length s)) s rest) ∙ goes exact_16 read_front (length s) (s ++ rest) small
      ∙ (exact_front (length s)).complete s rest refl;
}

abbrev pub Each : {A : Type 0} → (A → Type 0) → List A → Type 0
Each P [] = Unit {0}
Each P (x ∷ xs) = P x × Each P xs

-- two fields that make one value
module _ {A B C : Type 0} {f : List ℕ → Reading A} {g : List ℕ → Reading B} {c : A → List ℕ} {d : B → List ℕ}
    {R : A → Type 0} {S : B → Type 0}
    (exact_f : IsExact f c R) (exact_g : IsExact g d S) (make : A → B → C) (first : C → A) (second : C → B)
    (made : (x : C) → make (first x) (second x) ≡ x) (first_of : (a : A) (b : B) → first (make a b) ≡ a)
    (second_of : (a : A) (b : B) → second (make a b) ≡ b) where
  pub exact_pair : IsExact (λ bytes. onward (f bytes) (λ a rest. onward (g rest) (λ b after. read (make a b) after)))
      (λ x. c (first x) ++ d (second x)) (λ x. R (first x) × S (second x))
  exact_pair = record { sound = sound; complete = complete }
    where
      sound : (bytes rest : List ℕ) (x : C) → IsBytes bytes
          → onward (f bytes) (λ a rest. onward (g rest) (λ b after. read (make a b) after)) ≡ read x rest
          → (R (first x) × S (second x)) × (bytes ≡ (c (first x) ++ d (second x)) ++ rest)
      sound bytes rest x are e =
          let p = went exact_f (λ a rest. onward (g rest) (λ b after. read (make a b) after)) bytes x rest are e in
          let q = went exact_g (λ b after. read (make p.value b) after) p.rest x rest p.are_bytes p.on in
          let on : read (make p.value q.value) q.rest ≡ read x rest = q.on in
          let is : make p.value q.value ≡ x = cc in
          let after : q.rest ≡ rest = cc in
          let a : p.value ≡ first x = sym (first_of p.value q.value) ∙ ap first is in
          let b : q.value ≡ second x = sym (second_of p.value q.value) ∙ ap second is in (
            (subst R a p.in_range, subst S b q.in_range),
            p.spelled ∙ (λ i. c (a i) ++ q.spelled i) ∙ (λ i. c (first x) ++ (d (b i) ++ after i))
                ∙ sym (append_assoc (c (first x)) (d (second x)) rest),
          )

      complete : (x : C) (rest : List ℕ) → R (first x) × S (second x)
          → onward (f ((c (first x) ++ d (second x)) ++ rest)) (λ a rest. onward (g rest) (λ b after. read (make a b) after)) ≡ read x rest
      complete x rest in_range =
          ap (λ bytes. onward (f bytes) (λ a rest. onward (g rest) (λ b after. read (make a b) after)))
          (append_assoc (c (first x)) (d (second x)) rest)
          ∙ goes exact_f (λ a rest. onward (g rest) (λ b after. read (make a b) after)) (first x) (d (second x) ++ rest) in_range.0
          ∙ goes exact_g (λ b after. read (make (first x) b) after) (second x) rest in_range.1
          ∙ ap (λ y. read y rest) (made x)

-- what was read before a reading went on
pub record Before {A B : Type 0} (reading : Reading A) (next : A → List ℕ → Reading B) (b : B) (out : List ℕ) : Type 0 where
  pub value : A
  pub rest : List ℕ
  pub is : reading ≡ read value rest
  pub on : next value rest ≡ read b out

pub before : {A B : Type 0} (reading : Reading A) (next : A → List ℕ → Reading B) (b : B) (out : List ℕ)
    → onward reading next ≡ read b out → Before reading next b out
before (read a rest) next b out e = record { value = a; rest = rest; is = refl; on = e }
before (bad from) next b out e = absurd (cc)
before short next b out e = absurd (cc)

-- many values
module _ {A : Type 0} {f : List ℕ → Reading A} {c : A → List ℕ} {R : A → Type 0} (exact : IsExact f c R) where
  many_sound : (n : ℕ) (bytes rest : List ℕ) (xs : List A) → IsBytes bytes → read_many f n bytes ≡ read xs rest
      → ((length xs ≡ n) × Each R xs) × (bytes ≡ joined (map c xs) ++ rest)
  many_sound zero bytes rest xs are e =
      let none : [] ≡ xs = cc in
      let after : bytes ≡ rest = cc in
      subst (λ (ys : List A). ((length ys ≡ 0) × Each R ys) × (bytes ≡ joined (map c ys) ++ rest)) none ((refl, tt), after)
  many_sound (suc n) bytes rest xs are e =
      let p = went exact (λ a r. onward (read_many f n r) (λ more after. read (a ∷ more) after)) bytes xs rest are e in
      let q = before (read_many f n p.rest) (λ more after. read (p.value ∷ more) after) xs rest p.on in
      let ih = many_sound n p.rest q.rest q.value p.are_bytes q.is in
      let on : read (p.value ∷ q.value) q.rest ≡ read xs rest = q.on in
      let same : p.value ∷ q.value ≡ xs = cc in
      let after : q.rest ≡ rest = cc in
      subst (λ (ys : List A). ((length ys ≡ suc n) × Each R ys) × (bytes ≡ joined (map c ys) ++ rest)) same (
        (ap suc ih.0.0, (p.in_range, ih.0.1)),
        p.spelled ∙ ap (λ (r : List ℕ). c p.value ++ r) ih.1 ∙ (λ i. c p.value ++ (joined (map c q.value) ++ after i))
            ∙ sym (append_assoc (c p.value) (joined (map c q.value)) rest),
      )

  many_complete : (xs : List A) (rest : List ℕ) → Each R xs → read_many f (length xs) (joined (map c xs) ++ rest) ≡ read xs rest
  many_complete [] rest each = refl
  many_complete (x ∷ xs) rest each =
      ap (λ (bytes : List ℕ). read_many f (suc (length xs)) bytes) (append_assoc (c x) (joined (map c xs)) rest)
      ∙ goes exact (λ a r. onward (read_many f (length xs) r) (λ more after. read (a ∷ more) after)) x (joined (map c xs) ++ rest) each.0
      ∙ ap (λ (r : Reading (List A)). onward r (λ more after. read (x ∷ more) after)) (many_complete xs rest each.1)

  -- a count, and then so many
  pub exact_counted : {k : List ℕ → Reading ℕ} {kc : ℕ → List ℕ} (most : ℕ) → IsExact k kc (λ n. n < most)
      → IsExact (λ bytes. onward (k bytes) (read_many f)) (λ xs. kc (length xs) ++ joined (map c xs)) (λ xs. (length xs < most) × Each R xs)
  exact_counted {k = k} {kc = kc} most exact_k = record { sound = sound; complete = complete }
    where
      sound : (bytes rest : List ℕ) (xs : List A) → IsBytes bytes → onward (k bytes) (read_many f) ≡ read xs rest
          → ((length xs < most) × Each R xs) × (bytes ≡ (kc (length xs) ++ joined (map c xs)) ++ rest)
      sound bytes rest xs are e =
          let p = went exact_k (read_many f) bytes xs rest are e in
          let q = many_sound p.value p.rest rest xs p.are_bytes p.on in
          let few : length xs < most = subst (λ n. n < most) (sym q.0.0) p.in_range in
          ((few, q.0.1), p.spelled ∙ (λ i. kc (sym q.0.0 i) ++ q.1 i) ∙ sym (append_assoc (kc (length xs)) (joined (map c xs)) rest))

      complete : (xs : List A) (rest : List ℕ) → (length xs < most) × Each R xs
          → onward (k ((kc (length xs) ++ joined (map c xs)) ++ rest)) (read_many f) ≡ read xs rest
      complete xs rest in_range =
          ap (λ bytes. onward (k bytes) (read_many f)) (append_assoc (kc (length xs)) (joined (map c xs)) rest)
          ∙ goes exact_k (read_many f) (length xs) (joined (map c xs) ++ rest) in_range.0
          ∙ many_complete xs rest in_range.1

-- a value that passes a test
module _ {A : Type 0} (test : A → Bool) where
  pub passed : (a b : A) (from rest out : List ℕ) → tested test from a rest ≡ read b out → (test b ≡ true) × ((a ≡ b) × (rest ≡ out))
  passed a b from rest out =
      elim (test a) as
      (λ v. test a ≡ v → (elim v as (λ x. Reading A) [ true ↦ read a rest | false ↦ bad from ]) ≡ read b out → (test b ≡ true)
      × ((a ≡ b) × (rest ≡ out))) [
        | true ↦ λ t e. let same : a ≡ b = cc in let after : rest ≡ out = cc in (subst (λ x. test x ≡ true) same t, (same, after))
        | false ↦ λ t e. absurd (cc)
      ] refl

  pub passes : (a : A) (from rest : List ℕ) → test a ≡ true → tested test from a rest ≡ read a rest
  passes a from rest t = ap (λ (v : Bool). elim v as (λ x. Reading A) [ true ↦ read a rest | false ↦ bad from ]) t

module _ {A : Type 0} {f : List ℕ → Reading A} {c : A → List ℕ} {R : A → Type 0} (exact : IsExact f c R) (test : A → Bool) where
  pub exact_tested : IsExact (λ bytes. onward (f bytes) (tested test bytes)) c (λ a. R a × (test a ≡ true))
  exact_tested = record {
    sound = λ bytes rest a are e.
        let p = went exact (tested test bytes) bytes a rest are e in
        let q = passed test p.value a bytes p.rest rest p.on in
        ((subst R q.1.0 p.in_range, q.0), p.spelled ∙ (λ i. c (q.1.0 i) ++ q.1.1 i));
    complete = λ a rest in_range. goes exact (tested test (c a ++ rest)) a rest in_range.0 ∙ passes test a (c a ++ rest) rest in_range.1;
  }

-- a value by its code
module _ {A : Type 0} (code : A → ℕ) (values : List A) where
  code_of_found : (more : List A) (byte : ℕ) (a : A) → with_code code more byte ≡ Some a → code a ≡ byte
  code_of_found [] byte a e = absurd (cc)
  code_of_found (x ∷ more) byte a found_it =
      cond_both (nat_eq (code x) byte) (Some x) (with_code code more byte) (λ o. o ≡ Some a → code a ≡ byte)
      (λ is e. let same : x ≡ a = cc in ap code (sym same) ∙ eqb-true (code x) byte is)
      (λ other e. code_of_found more byte a e) found_it

  found_is : (o : Option A) (a : A) (from rest out : List ℕ) → found from o rest ≡ read a out → (o ≡ Some a) × (rest ≡ out)
  found_is None a from rest out e = absurd (cc)
  found_is (Some b) a from rest out e = let same : b ≡ a = cc in let after : rest ≡ out = cc in (ap Some same, after)

  pub exact_coded : IsExact (read_coded code values) (λ a. code a ∷ []) (λ a. (code a < 256) × (with_code code values (code a) ≡ Some a))
  exact_coded = record {
    sound = λ bytes rest a are e.
        let p = went exact_byte (λ byte after. found bytes (with_code code values byte) after) bytes a rest are e in
        let q = found_is (with_code code values p.value) a bytes p.rest rest p.on in
        let is = code_of_found values p.value a q.0 in (
          (subst (λ n. n < 256) (sym is) p.in_range, subst (λ n. with_code code values n ≡ Some a) (sym is) q.0),
          p.spelled
              ∙ (λ i. sym is i ∷ q.1 i),
        );
    complete = λ a rest in_range. ap (λ o. found (code a ∷ rest) o rest) in_range.1;
  }

abbrev pub IfThere : {A : Type 0} → (A → Type 0) → Option A → Type 0
IfThere P None = Unit {0}
IfThere P (Some a) = P a

module _ {A : Type 0} {f : List ℕ → Reading A} {c : A → List ℕ} {R : A → Type 0} (exact : IsExact f c R) where
  optional_sound : (byte : ℕ) (from rest out : List ℕ) (o : Option A) → IsBytes rest → optional f byte from rest ≡ read o out
      → IfThere R o × (byte ∷ rest ≡ option_coding c o ++ out)
  optional_sound zero from rest out None are e = let after : rest ≡ out = cc in (tt, ap (λ (r : List ℕ). 0 ∷ r) after)
  optional_sound zero from rest out (Some a) are e = absurd (cc)
  optional_sound (suc zero) from rest out o are e =
      let p = went exact (λ a after. read (Some a) after) rest o out are e in
      let on : read (Some p.value) p.rest ≡ read o out = p.on in
      let same : Some p.value ≡ o = cc in
      let after : p.rest ≡ out = cc in
      subst (λ (x : Option A). IfThere R x × (1 ∷ rest ≡ option_coding c x ++ out)) same
      (p.in_range, (λ i. 1 ∷ (p.spelled ∙ (λ j. c p.value ++ after j)) i))
  optional_sound (suc (suc n)) from rest out o are e = absurd (cc)

  option_complete : (o : Option A) (rest : List ℕ) → IfThere R o → read_option f (option_coding c o ++ rest) ≡ read o rest
  option_complete None rest there = refl
  option_complete (Some a) rest there = goes exact (λ b after. read (Some b) after) a rest there

  pub exact_option : IsExact (read_option f) (option_coding c) (IfThere R)
  exact_option = record {
    sound = λ bytes rest o are e.
        let p = went exact_byte (λ byte after. optional f byte bytes after) bytes o rest are e in
        let q = optional_sound p.value bytes p.rest rest o p.are_bytes p.on in
        (q.0, p.spelled ∙ q.1);
    complete = option_complete;
  }
