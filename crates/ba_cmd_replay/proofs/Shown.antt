-- Lines that are shown, of which the last ones are held: for each function that shows lines of a world's play, clause `shown`.
use Rattle.std.proofs.Common.{◌≡◌, ℕ, List, [], ◌∷◌, ◌++◌, Option, Result, Ok, Err, OnOk, IfErr, refl, sym, ap, ◌∙◌, subst, inl, inr}
use Rattle.std.proofs.Common.{append-nil, append_assoc}
use Rattle.std.proofs.KnownBytes.{Appends-trans, Appends-nil}
use Rattle.std.specs.Io.KnownBytes.{Appends}
use Rattle.ba_ports.proofs.Due.{keeps_appends, part_before, writes_on}
use Rattle.ba_ports.specs.Outputs.{WritesPart}
use Rattle.ba_tree.specs.Trees.{joined}
use Rattle.ba_cmd_replay.specs.WorldReplay.{WritesFirstOf}
use Rattle.ba_cmd_replay.specs.declared.plays.PlayFault.{PlayFault}
use Rattle.ba_cmd_replay.specs.declared.plays.PlayFault.TheVariants as played
use Rattle.ba_cmd_replay.specs.inside.Plays.{GoesOutOrStays}
use Rattle.ba_cmd_replay.specs.inside.WorldPlays.{HoldsRest, AreLinesShown, AreLinesWritten}

pub joined_on : (xs ys : List (List ℕ)) → joined (xs ++ ys) ≡ joined xs ++ joined ys
joined_on [] ys = refl
joined_on (x ∷ xs) ys = ap (λ (t : List ℕ). x ++ t) (joined_on xs ys) ∙ sym (append_assoc x (joined xs) (joined ys))

-- a text that is held, and no line yet
pub held_start : (w : Option (List ℕ)) (text : List ℕ) → HoldsRest (text ∷ []) w w text
held_start w text = record {
  out = [];
  held = text ∷ [];
  are = refl;
  written = Appends-nil w;
  text_is = sym (append-nil text);
}

kept_after : (a b c : Option (List ℕ)) (bytes : List ℕ) → Appends a b bytes → Appends b c [] → Appends a c bytes
kept_after a b c bytes first second = subst (Appends a c) (append-nil bytes) (Appends-trans a b c bytes [] first second)

-- ---- more lines after those that were shown

holds_by : (lines more : List (List ℕ)) (a b c : Option (List ℕ)) (t u : List ℕ) → HoldsRest lines a b t
    → (out held : List (List ℕ)) → t ∷ more ≡ out ++ held → Appends b c (joined out) → u ≡ joined held
    → HoldsRest (lines ++ more) a c u
holds_by lines more a b c t u h [] held are written text = record {
  out = h.out;
  held = h.held ++ more;
  are = ap (λ (ls : List (List ℕ)). ls ++ more) h.are ∙ append_assoc h.out h.held more;
  written = kept_after a b c (joined h.out) h.written written;
  text_is = text ∙ ap joined (sym are) ∙ ap (λ (x : List ℕ). x ++ joined more) h.text_is ∙ sym (joined_on h.held more);
}
holds_by lines more a b c t u h (x ∷ out) held are written text =
    let same : t ≡ x = cc in
    let rest : more ≡ out ++ held = cc in
    let bytes : joined h.out ++ (x ++ joined out) ≡ joined (lines ++ out) =
    ap (λ (y : List ℕ). joined h.out ++ (y ++ joined out)) (sym same ∙ h.text_is)
    ∙ sym (append_assoc (joined h.out) (joined h.held) (joined out))
    ∙ ap (λ (y : List ℕ). y ++ joined out) (sym (joined_on h.out h.held) ∙ ap joined (sym h.are)) ∙ sym (joined_on lines out) in
    record {
      out = lines ++ out;
      held = held;
      are = ap (λ (ls : List (List ℕ)). lines ++ ls) rest ∙ sym (append_assoc lines out held);
      written = subst (Appends a c) bytes (Appends-trans a b c (joined h.out) (x ++ joined out) h.written written);
      text_is = text;
    }

first_by : (lines more : List (List ℕ)) (a b c : Option (List ℕ)) (t : List ℕ) → HoldsRest lines a b t
    → (first rest : List (List ℕ)) → t ∷ more ≡ first ++ rest → Appends b c (joined first) → WritesFirstOf (lines ++ more) a c
first_by lines more a b c t h [] rest are written = (
  h.out,
  h.held ++ more,
  ap (λ (ls : List (List ℕ)). ls ++ more) h.are ∙ append_assoc h.out h.held more,
  kept_after a b c (joined h.out) h.written written,
)
first_by lines more a b c t h (x ∷ first) rest are written =
    let all = holds_by lines more a b c t (joined rest) h (x ∷ first) rest are written refl in
    (all.out, all.held, all.are, all.written)

part_by : (lines more : List (List ℕ)) (a b c : Option (List ℕ)) (t : List ℕ) → HoldsRest lines a b t → WritesPart b c (t ++ joined more)
    → WritesPart a c (joined (lines ++ more))
part_by lines more a b c t h part =
    let due : joined (lines ++ more) ≡ joined h.out ++ (t ++ joined more) =
    joined_on lines more ∙ ap (λ (ls : List (List ℕ)). joined ls ++ joined more) h.are
    ∙ ap (λ (y : List ℕ). y ++ joined more) (joined_on h.out h.held) ∙ append_assoc (joined h.out) (joined h.held) (joined more)
    ∙ ap (λ (y : List ℕ). joined h.out ++ (y ++ joined more)) (sym h.text_is) in
    (part.0, writes_on a b c (joined (lines ++ more)) (t ++ joined more) part.0 (joined h.out, h.written, due) part.1)

-- lines were shown, and then more
pub shown_on : {A : Type 0} (lines more : List (List ℕ)) (a b c : Option (List ℕ)) (t u : List ℕ) (r : Result A PlayFault)
    → HoldsRest lines a b t
    → AreLinesShown (t ∷ more) b c u r → AreLinesShown (lines ++ more) a c u r
shown_on lines more a b c t u (Ok done) h shown = holds_by lines more a b c t u h shown.out shown.held shown.are shown.written shown.text_is
shown_on lines more a b c t u (Err played.Memory) h shown = first_by lines more a b c t h shown.0 shown.1 shown.2 shown.3
shown_on lines more a b c t u (Err played.Write) h shown = part_by lines more a b c t h shown
shown_on lines more a b c t u (Err (played.NoSuchName number)) h shown = absurd shown
shown_on lines more a b c t u (Err (played.NoSuchMessage number)) h shown = absurd shown

-- what broke off would have shown more
pub broken_before : (A B : Type 0) (lines more : List (List ℕ)) (a c : Option (List ℕ)) (u v : List ℕ) (why : PlayFault)
    → AreLinesShown {A = A} lines a c u (Err why) → AreLinesShown {A = B} (lines ++ more) a c v (Err why)
broken_before A B lines more a c u v played.Memory shown = (
  shown.0,
  shown.1 ++ more,
  ap (λ (ls : List (List ℕ)). ls ++ more) shown.2 ∙ append_assoc shown.0 shown.1 more,
  shown.3,
)
broken_before A B lines more a c u v played.Write shown =
    subst (WritesPart a c) (sym (joined_on lines more)) (part_before a c (joined lines) (joined more) shown)
broken_before A B lines more a c u v (played.NoSuchName number) shown = absurd shown
broken_before A B lines more a c u v (played.NoSuchMessage number) shown = absurd shown

-- ---- one line

two_joined : (text line : List ℕ) → text ++ line ≡ joined (text ∷ line ∷ [])
two_joined text line = ap (λ (y : List ℕ). text ++ y) (sym (append-nil line))

-- the line joined the text, which went out or is held
line_held : (before now : Option (List ℕ)) (text line whole held : List ℕ) → whole ≡ text ++ line
    → GoesOutOrStays before whole now held → HoldsRest (text ∷ line ∷ []) before now held
line_held before now text line whole held is goes = elim goes [
  | inl stays ↦ record {
    out = [];
    held = text ∷ line ∷ [];
    are = refl;
    written = keeps_appends before now stays.0;
    text_is = stays.1 ∙ is ∙ two_joined text line;
  }
  | inr out ↦ record {
    out = text ∷ line ∷ [];
    held = [];
    are = sym (append-nil (text ∷ line ∷ []));
    written = subst (Appends before now) (is ∙ two_joined text line) out.0;
    text_is = out.1;
  }
]

pub line_shown : {A : Type 0} (before now : Option (List ℕ)) (text line whole held : List ℕ) (r : Result A PlayFault) → whole ≡ text ++ line
    → OnOk r (GoesOutOrStays before whole now held) → IfErr r (λ why. (why ≡ played.Write) × WritesPart before now whole)
    → AreLinesShown (text ∷ line ∷ []) before now held r
line_shown before now text line whole held (Ok done) is goes broken = line_held before now text line whole held is goes
line_shown before now text line whole held (Err why) is goes broken =
    subst (λ (w : PlayFault). AreLinesShown {A = Unit {0}} (text ∷ line ∷ []) before now held (Err w)) (sym broken.0)
    (subst (WritesPart before now) (is ∙ two_joined text line) broken.1)

-- nothing was written of these lines
pub none_of : (lines : List (List ℕ)) (w : Option (List ℕ)) → WritesFirstOf lines w w
none_of lines w = ([], lines, refl, Appends-nil w)

-- ---- line after line

-- lines were shown after others
pub shown_more : (lines more : List (List ℕ)) (a b c : Option (List ℕ)) (t u : List ℕ) → HoldsRest lines a b t → HoldsRest (t ∷ more) b c u
    → HoldsRest (lines ++ more) a c u
shown_more lines more a b c t u h shown = holds_by lines more a b c t u h shown.out shown.held shown.are shown.written shown.text_is

-- it broke off at some lines, after which others were to come
pub broken_at : (A B : Type 0) (lines more rest : List (List ℕ)) (a b c : Option (List ℕ)) (t u v : List ℕ) (why : PlayFault)
    → HoldsRest lines a b t → AreLinesShown {A = A} (t ∷ more) b c u (Err why)
    → AreLinesShown {A = B} ((lines ++ more) ++ rest) a c v (Err why)
broken_at A B lines more rest a b c t u v why h shown =
    broken_before A B (lines ++ more) rest a c u v why (shown_on {A = A} lines more a b c t u (Err why) h shown)

-- ---- what is held is written at last

pub rest_written : {A : Type 0} (lines : List (List ℕ)) (a b c : Option (List ℕ)) (t : List ℕ) (r : Result A PlayFault)
    → HoldsRest lines a b t
    → OnOk r (Appends b c t) → IfErr r (λ why. (why ≡ played.Write) × WritesPart b c t) → AreLinesWritten lines a c r
rest_written lines a b c t (Ok done) h written broken =
    subst (Appends a c)
    (ap (λ (y : List ℕ). joined h.out ++ y) h.text_is ∙ sym (joined_on h.out h.held) ∙ ap joined (sym h.are))
    (Appends-trans a b c (joined h.out) t h.written written)
rest_written lines a b c t (Err why) h written broken =
    let part : WritesPart a c (joined (lines ++ [])) =
    part_by lines [] a b c t h (subst (WritesPart b c) (sym (append-nil t)) broken.1) in
    subst (λ (w : PlayFault). AreLinesWritten {A = Unit {0}} lines a c (Err w)) (sym broken.0)
    (subst (λ (ls : List (List ℕ)). WritesPart a c (joined ls)) (append-nil lines) part)

-- what wasn't shown isn't written
pub broken_written : (A B : Type 0) (lines : List (List ℕ)) (a c : Option (List ℕ)) (u : List ℕ) (why : PlayFault)
    → AreLinesShown {A = A} lines a c u (Err why) → AreLinesWritten {A = B} lines a c (Err why)
broken_written A B lines a c u played.Memory shown = shown
broken_written A B lines a c u played.Write shown = shown
broken_written A B lines a c u (played.NoSuchName number) shown = absurd shown
broken_written A B lines a c u (played.NoSuchMessage number) shown = absurd shown

-- at want of memory the lines that are held are lost
pub first_held : (lines more : List (List ℕ)) (a b : Option (List ℕ)) (t : List ℕ) → HoldsRest lines a b t
    → WritesFirstOf (lines ++ more) a b
first_held lines more a b t h =
    (h.out, h.held ++ more, ap (λ (ls : List (List ℕ)). ls ++ more) h.are ∙ append_assoc h.out h.held more, h.written)

-- ---- what was written after lines that were shown

all_due : (lines more : List (List ℕ)) (a b : Option (List ℕ)) (t : List ℕ) → (h : HoldsRest lines a b t)
    → joined h.out ++ (t ++ joined more) ≡ joined (lines ++ more)
all_due lines more a b t h =
    ap (λ (y : List ℕ). joined h.out ++ (y ++ joined more)) h.text_is ∙ sym (append_assoc (joined h.out) (joined h.held) (joined more))
    ∙ ap (λ (y : List ℕ). y ++ joined more) (sym (joined_on h.out h.held) ∙ ap joined (sym h.are)) ∙ sym (joined_on lines more)

pub written_on : {A : Type 0} (lines more : List (List ℕ)) (a b c : Option (List ℕ)) (t : List ℕ) (r : Result A PlayFault)
    → HoldsRest lines a b t
    → AreLinesWritten (t ∷ more) b c r → AreLinesWritten (lines ++ more) a c r
written_on lines more a b c t (Ok done) h written =
    subst (Appends a c) (all_due lines more a b t h) (Appends-trans a b c (joined h.out) (t ++ joined more) h.written written)
written_on lines more a b c t (Err played.Memory) h written = first_by lines more a b c t h written.0 written.1 written.2 written.3
written_on lines more a b c t (Err played.Write) h written = part_by lines more a b c t h written
written_on lines more a b c t (Err (played.NoSuchName number)) h written = absurd written
written_on lines more a b c t (Err (played.NoSuchMessage number)) h written = absurd written
