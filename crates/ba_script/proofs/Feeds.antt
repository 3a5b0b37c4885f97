-- The bytes at hand begin with the next line, by its line feed.
use Rattle.std.proofs.Common.{◌≡◌, ◌≢◌, ℕ, zero, suc, ◌+◌, ◌<◌, List, [], ◌∷◌, ◌++◌, length, take, drop, Option, None, Some, if◌then◌else◌}
use Rattle.std.proofs.Common.{refl, sym, ap, ◌∙◌, subst, inl, inr, append_assoc, append-nil, take-append-drop, take_all, ne_eqb, arith}
use Rattle.std.proofs.Common.{length-take}
use Rattle.std.specs.Io.KnownBytes.{IsAtEnd}
use Rattle.std.proofs.lemmas.List.{drop_more, drop_all, length_push}
use Rattle.std.proofs.lemmas.List.Elements.{All-head, All-tail}
use Rattle.ba_ports.specs.Lines.{onto_first, lines_of}
use Rattle.ba_script.specs.inside.Lines.{HasNoFeed, EndsLine, LosesLine, BeginsLonger, IsNextLine}

-- another byte goes to the first line
clear_step : (b : ℕ) (bytes : List ℕ) → b ≢ 10 → lines_of (b ∷ bytes) ≡ onto_first b (lines_of bytes)
clear_step b bytes other = ap (λ t. if t then [] ∷ lines_of bytes else onto_first b (lines_of bytes)) (ne_eqb b 10 other)

ended_line : (line rest : List ℕ) → HasNoFeed line → lines_of (line ++ 10 ∷ rest) ≡ line ∷ lines_of rest
ended_line [] rest clear = refl
ended_line (b ∷ line) rest clear =
    clear_step b (line ++ 10 ∷ rest) (All-head (λ x. x ≢ 10) b line clear)
    ∙ ap (onto_first b) (ended_line line rest (All-tail (λ x. x ≢ 10) b line clear))

last_line : (b : ℕ) (line : List ℕ) → HasNoFeed (b ∷ line) → lines_of (b ∷ line) ≡ (b ∷ line) ∷ []
last_line b [] clear = clear_step b [] (All-head (λ x. x ≢ 10) b [] clear)
last_line b (c ∷ line) clear =
    clear_step b (c ∷ line) (All-head (λ x. x ≢ 10) b (c ∷ line) clear)
    ∙ ap (onto_first b) (last_line c line (All-tail (λ x. x ≢ 10) b (c ∷ line) clear))

onto_any : (b : ℕ) (lines : List (List ℕ)) → BeginsLonger 0 (onto_first b lines)
onto_any b [] = omega arith
onto_any b (line ∷ lines) = omega arith

onto_longer : (n b : ℕ) (lines : List (List ℕ)) → BeginsLonger n lines → BeginsLonger (suc n) (onto_first b lines)
onto_longer n b [] longer = absurd longer
onto_longer n b (line ∷ lines) longer = omega arith

-- a line is at least as long as a beginning of it
beginning_longer : (n : ℕ) (line more : List ℕ) → HasNoFeed line → n < length line → BeginsLonger n (lines_of (line ++ more))
beginning_longer n [] more clear longer = absurd (omega arith)
beginning_longer zero (b ∷ line) more clear longer =
    subst (BeginsLonger 0) (sym (clear_step b (line ++ more) (All-head (λ x. x ≢ 10) b line clear))) (onto_any b (lines_of (line ++ more)))
beginning_longer (suc n) (b ∷ line) more clear longer =
    subst (BeginsLonger (suc n)) (sym (clear_step b (line ++ more) (All-head (λ x. x ≢ 10) b line clear)))
    (onto_longer n b (lines_of (line ++ more)) (beginning_longer n line more (All-tail (λ x. x ≢ 10) b line clear) (omega arith)))

loses_ended : (text line rest : List ℕ) → HasNoFeed line → text ≡ line ++ 10 ∷ rest → LosesLine text line rest
loses_ended text line rest clear is = record {
  lines = ap lines_of is ∙ ended_line line rest clear;
  bytes = (line ++ 10 ∷ [], is ∙ sym (append_assoc line (10 ∷ []) rest), omega (arith, length_push line 10));
}

loses_last : (text line rest : List ℕ) → HasNoFeed line → 0 < length line → text ≡ line → rest ≡ [] → LosesLine text line rest
loses_last text [] rest clear any is none = absurd (omega arith)
loses_last text (b ∷ line) rest clear any is none = record {
  lines = ap lines_of is ∙ last_line b line clear ∙ ap (λ r. (b ∷ line) ∷ lines_of r) (sym none);
  bytes = (b ∷ line, is ∙ sym (append-nil (b ∷ line)) ∙ ap (λ r. (b ∷ line) ++ r) (sym none), omega arith);
}

-- bytes at hand that end a line begin with it
pub next_line_ended : (bytes : List ℕ) (s : Option (List ℕ)) (n : ℕ) → EndsLine bytes n → IsNextLine bytes s n
next_line_ended bytes None n e = tt
next_line_ended bytes (Some left) n e =
    let first = take n bytes in
    elim e.ends [
      | inl feed ↦ inl (loses_ended (bytes ++ left) first (drop (n + 1) bytes ++ left) e.clear
          (ap (λ t. t ++ left) (sym (take-append-drop n bytes) ∙ ap (λ t. first ++ t)
          (drop_more bytes n 0 feed.0 ∙ ap (λ b. b ∷ drop (n + 1) bytes) feed.1))
          ∙ append_assoc first (10 ∷ drop (n + 1) bytes) left))
      | inr long ↦ inr (
        subst (λ t. BeginsLonger 256 (lines_of t))
            (sym (append_assoc first (drop n bytes) left) ∙ ap (λ t. t ++ left) (take-append-drop n bytes))
            (beginning_longer 256 first (drop n bytes ++ left) e.clear (omega (arith, length-take n bytes, e.within))),
        omega (arith, length-take n bytes, e.within),
      )
    ]

-- at the end of input the bytes at hand are the last line
pub next_line_last : (bytes : List ℕ) (s : Option (List ℕ)) (n : ℕ) → n ≡ length bytes → HasNoFeed bytes → 0 < n → IsAtEnd s
    → IsNextLine bytes s n
next_line_last bytes None n all clear any end = tt
next_line_last bytes (Some left) n all clear any end =
    let first : take n bytes ≡ bytes = take_all n bytes (omega arith) in
    inl (loses_last (bytes ++ left) (take n bytes) (drop (n + 1) bytes ++ left) (subst HasNoFeed (sym first) clear)
    (omega (arith, ap length first))
    (ap (λ t. bytes ++ t) end ∙ append-nil bytes ∙ sym first)
    (ap (λ t. t ++ left) (drop_all (n + 1) bytes (omega arith)) ∙ end))
