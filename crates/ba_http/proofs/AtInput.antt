-- The end of the input ends one message, or none; for the law.
use Rattle.std.proofs.Common.{◌≡◌, ℕ, ◌≤◌, ◌⊎◌, inl, inr, List, [], ◌∷◌, ◌++◌, length, take, drop, refl, sym, ap, ◌∙◌, subst, arith}
use Rattle.std.proofs.Common.{take_all, Option, None, Some, Ok}
use Rattle.ba_http_head.specs.declared.headings.Heading.{Heading}
use Rattle.ba_http_head.specs.declared.lengths.Length.{Length}
use Rattle.ba_http_head.specs.declared.scans.Shown.TheVariants.{Whole}
use Rattle.ba_http_head.specs.Heads.{StartLine, IsHead, SaysHead}
use Rattle.ba_http_head.specs.Looks.{Shows}
use Rattle.ba_http_head.proofs.Once.{shows_once, says_one}
use Rattle.ba_http.specs.Messages.{HttpMessage, IsAfterHead, IsUnfinished, IsCutShort, EndsAtInput}
use Rattle.ba_http.proofs.OneMessage.{says_length, prefix_is, inner, closed}

after : (xs ys : List ℕ) → drop (length xs) (xs ++ ys) ≡ ys
after [] ys = refl
after (x ∷ xs) ys = after xs ys

abbrev message_of : StartLine → List ℕ → HttpMessage
message_of start body = record { start = start; body = body }

-- two whole heads at the beginning of the same bytes
record Same (x y : List ℕ) (a b : StartLine) (s t : Option Length) : Type 0 where
  rests : x ≡ y
  starts : a ≡ b
  lengths : says_length s ≡ says_length t

module _ (heading : Heading) (bytes : List ℕ) where
  all : (prefix rest : List ℕ) → bytes ≡ prefix ++ rest → take (length bytes) bytes ≡ prefix ++ rest
  all prefix rest cut = take_all (length bytes) bytes (omega arith) ∙ cut

  begins : (prefix rest : List ℕ) → bytes ≡ prefix ++ rest → take (length prefix) bytes ≡ prefix
  begins prefix rest cut = prefix_is bytes (length bytes) (omega arith) prefix rest (all prefix rest cut)

  within : (prefix rest : List ℕ) → bytes ≡ prefix ++ rest → length prefix ≤ length bytes
  within prefix rest cut = inner bytes (length bytes) (omega arith) prefix rest (all prefix rest cut)

  one_head : (p q x y : List ℕ) (a b : StartLine) (s t : Option Length) → bytes ≡ p ++ x → bytes ≡ q ++ y
      → IsHead heading p a (Ok s) → IsHead heading q b (Ok t) → Same x y a b s t
  one_head p q x y a b s t cut split one other =
      let same = (shows_once heading bytes (length p) (length q) Whole Whole (within p x cut) (within q y split)
      (subst (λ v. Shows heading v Whole) (sym (begins p x cut)) one.shows)
      (subst (λ v. Shows heading v Whole) (sym (begins q y split)) other.shows)).0 in
      let prefixes : p ≡ q = sym (begins p x cut) ∙ ap (λ k. take k bytes) same ∙ begins q y split in
      let says = says_one heading q a b (Ok s) (Ok t) (subst (λ v. SaysHead heading v a (Ok s)) prefixes one.says) other.says in record {
        rests = sym (after p x) ∙ ap (drop (length p)) (sym cut) ∙ ap (λ k. drop k bytes) same ∙ ap (drop (length q)) split ∙ after q y;
        starts = says.0;
        lengths = says.1;
      }

pub one_at_input : (heading : Heading) (bytes : List ℕ) (x y : HttpMessage) → EndsAtInput heading bytes x
    → EndsAtInput heading bytes y → x ≡ y
one_at_input heading bytes x y one other =
    let same = one_head heading bytes one.0 other.0 x.body y.body x.start y.start None None one.1 other.1 one.2 other.2 in
    ap (λ v. message_of v x.body) same.starts ∙ ap (message_of y.start) same.rests

pub whole_at_input : (heading : Heading) (bytes : List ℕ) (x : HttpMessage) → EndsAtInput heading bytes x → ¬ (IsCutShort heading bytes)
whole_at_input heading bytes x ends cut =
    elim cut [
      | inl yet ↦
          closed heading bytes (length ends.0) Whole (within heading bytes ends.0 x.body ends.1)
          (subst (λ v. Shows heading v Whole) (sym (begins heading bytes ends.0 x.body ends.1)) ends.2.shows) yet
      | inr h ↦
          let same = one_head heading bytes ends.0 h.1.0 x.body h.1.1 x.start h.1.2 None (Some h.0) ends.1 h.1.3 ends.2 h.1.4 in
          let no : says_length None ≡ says_length (Some h.0) = same.lengths in
          absurd (cc)
    ]

pub unfinished_at_input : (heading : Heading) (bytes : List ℕ) (x : HttpMessage) → EndsAtInput heading bytes x → IsUnfinished heading bytes
unfinished_at_input heading bytes x ends = inr (None, (ends.0, x.body, x.start, ends.1, ends.2, ends.3))

pub cut_unfinished : (heading : Heading) (bytes : List ℕ) → IsCutShort heading bytes → IsUnfinished heading bytes
cut_unfinished heading bytes cut = elim cut [ inl yet ↦ inl yet | inr h ↦ inr (Some h.0, h.1) ]

by_length : (heading : Heading) (bytes : List ℕ) (said : Option Length) → IsAfterHead heading bytes said
    → IsCutShort heading bytes ⊎ ((x : HttpMessage) × EndsAtInput heading bytes x)
by_length heading bytes (Some length) h = inl (inr (length, h))
by_length heading bytes None h = inr (message_of h.2 h.1, (h.0, h.3, h.4, h.5))

pub at_input : (heading : Heading) (bytes : List ℕ) → IsUnfinished heading bytes
    → IsCutShort heading bytes ⊎ ((x : HttpMessage) × EndsAtInput heading bytes x)
at_input heading bytes unfinished = elim unfinished [ inl yet ↦ inl (inl yet) | inr h ↦ by_length heading bytes h.0 h.1 ]
