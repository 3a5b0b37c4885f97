-- The machine over names.
use Rattle.std.proofs.Common.{◌≡◌, ℕ, ◌<◌, ◌≤◌, Bool, true, false, cond, ◌||◌, ◌&&◌, ◌==◌, nat_le, ◌⊎◌, inl, inr, ⊎_elim, List, [], ◌∷◌}
use Rattle.std.proofs.Common.{◌++◌, refl, sym, ap, ◌∙◌, subst, append_assoc, append-nil, arith, le-ltb, eq-eqb, true≢false, lt_irrefl}
use Rattle.std.proofs.lemmas.Bool.{lt-ltb, leb-true, eqb-true, ne_eqb}
use Rattle.std.specs.Char.{is_ascii_alphabetic, is_ascii_digit}
use Rattle.std.specs.Int.{is_in_range}
use Rattle.ba_xml_reader.proofs.CompleteContent.{hyphen_kind}
use Rattle.ba_xml_reader.proofs.CompleteSteps.{steps, one, go}
use Rattle.ba_xml_words.specs.Classes.{is_space, is_first_letter, is_digit_or_dot, class_of, mark_of}
use Rattle.ba_xml_reader.specs.inside.Machine.{state_after}
use Rattle.ba_xml_words.specs.inside.Names.{spelled, grown, one_letter, unlettered}
use Rattle.ba_xml_words.specs.inside.Remaining.{met}
use Rattle.ba_xml_reader.specs.inside.Tags.{end_name_by}
use Rattle.ba_xml_grammar.specs.GrammarWords.{Each, Begun, IsName, IsPrefix, IsPlainName, is_name_letter, written_name, written_prefix}
use Rattle.ba_xml_words.specs.declared.classes.Class.TheVariants as class
use Rattle.ba_xml_names.specs.declared.levels.Level.{Level}
use Rattle.ba_xml_words.specs.declared.names.RawName.{RawName}
use Rattle.ba_xml_words.specs.declared.names.Naming.TheVariants.{On}
use Rattle.ba_xml_words.specs.declared.remaining.Meeting.TheVariants as meeting
use Rattle.ba_xml_reader.specs.declared.states.Mode.{Mode}
use Rattle.ba_xml_reader.specs.declared.states.Mode.TheVariants as mode
use Rattle.ba_xml_reader.specs.declared.states.State.{State}
use Rattle.ba_xml_reader.specs.declared.states.State.TheVariants.{At}

-- ---- letters, digits and hyphens

either : (x y : Bool) → (x || y) ≡ true → (x ≡ true) ⊎ (y ≡ true)
either true y e = inl refl
either false y e = inr e

Between : ℕ → ℕ → ℕ → Type 0
Between low high b = (low ≤ b) × (b ≤ high)

in_range : (low high b : ℕ) → is_in_range low high b ≡ true → Between low high b
unfolding Between
in_range low high b e = both (nat_le low b) (nat_le b high) refl refl e
  where
    both : (x y : Bool) → nat_le low b ≡ x → nat_le b high ≡ y → (x && y) ≡ true → (low ≤ b) × (b ≤ high)
    both true true p q e = (leb-true low b p, leb-true b high q)
    both true false p q e = absurd (true≢false (sym e))
    both false y p q e = absurd (true≢false (sym e))

Printed : ℕ → Type 0
Printed b = (44 < b) × (b < 128)

letter_printed : (b : ℕ) → is_first_letter b ≡ true → Printed b
unfolding Printed Between
letter_printed b e = ⊎_elim (λ h. ⊎_elim (λ g. upper (in_range 65 90 b g)) (λ g. lower (in_range 97 122 b g))
    (either (is_in_range 65 90 b) (is_in_range 97 122 b) h)) (λ h. line (eqb-true b 95 h)) (either (is_ascii_alphabetic b) (b == 95) e)
  where
    upper : (65 ≤ b) × (b ≤ 90) → (44 < b) × (b < 128)
    upper h = (omega (arith, h), omega (arith, h))

    lower : (97 ≤ b) × (b ≤ 122) → (44 < b) × (b < 128)
    lower h = (omega (arith, h), omega (arith, h))

    line : b ≡ 95 → (44 < b) × (b < 128)
    line h = (omega (arith, h), omega (arith, h))

digit_printed : (b : ℕ) → is_digit_or_dot b ≡ true → Printed b
unfolding Printed Between
digit_printed b e = ⊎_elim (λ h. digit (in_range 48 57 b h)) (λ h. dot (eqb-true b 46 h)) (either (is_ascii_digit b) (b == 46) e)
  where
    digit : (48 ≤ b) × (b ≤ 57) → (44 < b) × (b < 128)
    digit h = (omega (arith, h), omega (arith, h))

    dot : b ≡ 46 → (44 < b) × (b < 128)
    dot h = (omega (arith, h), omega (arith, h))

apart : (b c : ℕ) → c < b → (b == c) ≡ false
apart b c h = ne_eqb b c (λ e. lt_irrefl c (subst (λ x. c < x) e h))

no_space : (b : ℕ) → 44 < b → is_space b ≡ false
no_space b h = rw (apart b 32 (omega arith), apart b 9 (omega arith), apart b 10 (omega arith)) refl

by_letter : (b : ℕ) → Printed b → (letter digit : Bool) → is_first_letter b ≡ letter → is_digit_or_dot b ≡ digit
    → class_of b ≡ cond letter class.Letter (cond digit class.Digit (mark_of b))
unfolding class_of Printed
by_letter b p letter digit l d = rw (no_space b p.0, le-ltb b 32 (omega arith), lt-ltb b 128 p.1, l, d) refl

pub letter_kind : (b : ℕ) → is_first_letter b ≡ true → class_of b ≡ class.Letter
letter_kind b e = by_letter b (letter_printed b e) true (is_digit_or_dot b) e refl

Kinds : ℕ → Type 0
Kinds b = (class_of b ≡ class.Letter) ⊎ ((class_of b ≡ class.Digit) ⊎ (class_of b ≡ class.Hyphen))

digit_kind : (b : ℕ) → is_digit_or_dot b ≡ true → Kinds b
unfolding Kinds
digit_kind b e = by (is_first_letter b) refl
  where
    by : (l : Bool) → is_first_letter b ≡ l → (class_of b ≡ class.Letter) ⊎ ((class_of b ≡ class.Digit) ⊎ (class_of b ≡ class.Hyphen))
    by true l = inl (letter_kind b l)
    by false l = inr (inl (by_letter b (digit_printed b e) false true l e))

name_kind : (b : ℕ) → is_name_letter b ≡ true → Kinds b
unfolding Kinds
name_kind b e = ⊎_elim (λ h. inl (letter_kind b h))
    (λ h. ⊎_elim (digit_kind b) (λ g. inr (inr (subst (λ x. class_of x ≡ class.Hyphen) (sym (eqb-true b 45 g)) hyphen_kind)))
    (either (is_digit_or_dot b) (b == 45) h))
    (either (is_first_letter b) (is_digit_or_dot b || b == 45) e)

-- ---- names

abbrev raw : List ℕ → List ℕ → RawName
raw prefix local = record { prefix = prefix; local = local }

unlettered_on : (prefix local : List ℕ) (b : ℕ) → Begun local → unlettered (raw prefix local) b ≡ On (raw prefix (local ++ b ∷ []))
unlettered_on prefix [] b g = absurd g
unlettered_on prefix (x ∷ xs) b g = refl

grown_on : (prefix local : List ℕ) (b : ℕ) → Begun local → Kinds b
    → grown (raw prefix local) b (class_of b) ≡ On (raw prefix (local ++ b ∷ []))
unfolding Kinds
grown_on prefix local b g (inl e) = ap (λ k. grown (raw prefix local) b k) e
grown_on prefix local b g (inr (inl e)) = ap (λ k. grown (raw prefix local) b k) e ∙ unlettered_on prefix local b g
grown_on prefix local b g (inr (inr e)) = ap (λ k. grown (raw prefix local) b k) e ∙ unlettered_on prefix local b g

more_begun : (local : List ℕ) (b : ℕ) → Begun (local ++ b ∷ [])
more_begun [] b = tt
more_begun (x ∷ xs) b = tt

colon_kind : class_of 58 ≡ class.Colon
unfolding class_of mark_of
colon_kind = refl

module _ (outer : List Level) (here : Level) (m : RawName → Mode)
    (on : (name next : RawName) (b : ℕ) → grown name b (class_of b) ≡ On next
    → state_after (At outer here (m name)) b ≡ At outer here (m next)) where
  letters : (prefix local bs rest : List ℕ) → Begun local → Each is_name_letter bs
      → steps (At outer here (m (raw prefix local))) (bs ++ rest) ≡ steps (At outer here (m (raw prefix (local ++ bs)))) rest
  letters prefix local [] rest g e = ap (λ l. steps (At outer here (m (raw prefix l))) rest) (sym (append-nil local))
  letters prefix local (b ∷ bs) rest g e =
      one (At outer here (m (raw prefix local))) (At outer here (m (raw prefix (local ++ b ∷ [])))) b (bs ++ rest)
      (on (raw prefix local) (raw prefix (local ++ b ∷ [])) b (grown_on prefix local b g (name_kind b e.0)))
      ∙ letters prefix (local ++ b ∷ []) bs rest (more_begun local b) e.1
      ∙ ap (λ l. steps (At outer here (m (raw prefix l))) rest) (append_assoc local (b ∷ []) bs)

  plain : (s : State) (prefix : List ℕ) → ((b : ℕ) → is_first_letter b ≡ true → state_after s b ≡ At outer here (m (raw prefix (b ∷ []))))
      → (local rest : List ℕ) → IsPlainName local → steps s (local ++ rest) ≡ steps (At outer here (m (raw prefix local))) rest
  plain s prefix first [] rest n = absurd n
  plain s prefix first (b ∷ bs) rest n = one s (At outer here (m (raw prefix (b ∷ [])))) b (bs ++ rest) (first b n.0)
      ∙ letters prefix (b ∷ []) bs rest tt n.1

  colon : (p : ℕ) (ps rest : List ℕ) → steps (At outer here (m (raw [] (p ∷ ps)))) (58 ∷ rest)
      ≡ steps (At outer here (m (raw (p ∷ ps) []))) rest
  colon p ps rest = one (At outer here (m (raw [] (p ∷ ps)))) (At outer here (m (raw (p ∷ ps) []))) 58 rest
      (on (raw [] (p ∷ ps)) (raw (p ∷ ps) []) 58 (ap (λ k. grown (raw [] (p ∷ ps)) 58 k) colon_kind))

  local_first : (prefix : List ℕ) (b : ℕ) → is_first_letter b ≡ true
      → state_after (At outer here (m (raw prefix []))) b ≡ At outer here (m (raw prefix (b ∷ [])))
  local_first prefix b e = on (raw prefix []) (raw prefix (b ∷ [])) b (ap (λ k. grown (raw prefix []) b k) (letter_kind b e))

  pub parts_run : (s : State) → ((b : ℕ) → is_first_letter b ≡ true → state_after s b ≡ At outer here (m (one_letter b)))
      → (prefix local rest : List ℕ) → IsPrefix prefix → IsPlainName local
      → steps s (written_prefix prefix (local ++ rest)) ≡ steps (At outer here (m (raw prefix local))) rest
  parts_run s first [] local rest p n = plain s [] first local rest n
  parts_run s first (x ∷ xs) local rest p n = plain s [] first (x ∷ xs) (58 ∷ (local ++ rest)) p ∙ colon x xs (local ++ rest)
      ∙ plain (At outer here (m (raw (x ∷ xs) []))) (x ∷ xs) (local_first (x ∷ xs)) local rest n

  pub name_runs : (s : State) → ((b : ℕ) → is_first_letter b ≡ true → state_after s b ≡ At outer here (m (one_letter b)))
      → (name : RawName) (rest : List ℕ) → IsName name → steps s (written_name name rest) ≡ steps (At outer here (m name)) rest
  name_runs s first name rest n = parts_run s first name.prefix name.local rest n.0 n.1

-- ---- the name in an end tag

same : (b : ℕ) → (b == b) ≡ true
same b = eq-eqb b b refl

met_last : (x : ℕ) → met (x ∷ []) x ≡ meeting.Whole
met_last x = rw (same x) refl

met_more : (x y : ℕ) (more : List ℕ) → met (x ∷ y ∷ more) x ≡ meeting.On (y ∷ more)
met_more x y more = rw (same x) refl

end_runs : (outer : List Level) (here : Level) (x : ℕ) (xs rest : List ℕ)
    → steps (At outer here (mode.EndName (x ∷ xs))) (x ∷ (xs ++ rest)) ≡ steps (At outer here mode.EndSpace) rest
end_runs outer here x [] rest = go outer here (mode.EndName (x ∷ [])) x (class_of x) rest refl
    ∙ ap (λ g. steps (end_name_by outer here g) rest) (met_last x)
end_runs outer here x (y ∷ ys) rest = go outer here (mode.EndName (x ∷ y ∷ ys)) x (class_of x) (y ∷ (ys ++ rest)) refl
    ∙ ap (λ g. steps (end_name_by outer here g) (y ∷ (ys ++ rest))) (met_more x y ys) ∙ end_runs outer here y ys rest

pub end_name_runs : (outer : List Level) (here : Level) (name : RawName) (rest : List ℕ) → IsName name
    → steps (At outer here (mode.EndName (spelled name))) (written_name name rest) ≡ steps (At outer here mode.EndSpace) rest
end_name_runs outer here name rest n = by name.prefix name.local n.1
  where
    by : (prefix local : List ℕ) → IsPlainName local
        → steps (At outer here (mode.EndName (spelled (raw prefix local)))) (written_prefix prefix (local ++ rest))
        ≡ steps (At outer here mode.EndSpace) rest
    by [] [] n = absurd n
    by [] (b ∷ bs) n = end_runs outer here b bs rest
    by (p ∷ ps) local n = ap (λ l. steps (At outer here (mode.EndName (p ∷ (ps ++ 58 ∷ local)))) (p ∷ l))
        (sym (append_assoc ps (58 ∷ local) rest)) ∙ end_runs outer here p (ps ++ 58 ∷ local) rest
