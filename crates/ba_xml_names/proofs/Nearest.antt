-- The nearest declaration among declarations that stand one behind another.
use Rattle.std.proofs.Common.{◌≡◌, ℕ, ◌+◌, ◌-◌, ◌<◌, ◌≤◌, length, take, get_or, arith, Bool, true, false, cond, List, [], ◌∷◌, ◌++◌}
use Rattle.std.proofs.Common.{reverse, Some, None, refl, ap, sym, ◌∙◌, bytes_eq}
use Rattle.std.proofs.lemmas.List.{take_all, take_more, reverse-append}
use Rattle.ba_xml_names.specs.Namespaces.{nearest, scope}
use Rattle.ba_xml_names.specs.declared.levels.Declaration.{Declaration}
use Rattle.ba_xml_names.specs.declared.levels.Level.{Level}

front_by : (b : Bool) (p : List ℕ) (d : Declaration) (ds es : List Declaration) (s : List ℕ)
    → (nearest p ds ≡ Some s → nearest p (ds ++ es) ≡ Some s)
    → cond b (Some d.space) (nearest p ds) ≡ Some s → cond b (Some d.space) (nearest p (ds ++ es)) ≡ Some s
front_by true p d ds es s f h = h
front_by false p d ds es s f h = f h

-- where the front has one, it is the nearest
pub in_front : (p : List ℕ) (ds es : List Declaration) (s : List ℕ) → nearest p ds ≡ Some s → nearest p (ds ++ es) ≡ Some s
in_front p [] es s h = absurd (none_some h)
  where
    none_some : None ≡ Some s → ⊥
    none_some e = cc
in_front p (d ∷ ds) es s h = front_by (bytes_eq d.prefix p) p d ds es s (in_front p ds es s) h

behind_by : (b : Bool) (p : List ℕ) (d : Declaration) (ds es : List Declaration)
    → (nearest p ds ≡ None → nearest p (ds ++ es) ≡ nearest p es)
    → cond b (Some d.space) (nearest p ds) ≡ None → cond b (Some d.space) (nearest p (ds ++ es)) ≡ nearest p es
behind_by true p d ds es f h = cc
behind_by false p d ds es f h = f h

-- where the front has none, it is that of the others
pub behind : (p : List ℕ) (ds es : List Declaration) → nearest p ds ≡ None → nearest p (ds ++ es) ≡ nearest p es
behind p [] es h = refl
behind p (d ∷ ds) es h = behind_by (bytes_eq d.prefix p) p d ds es (behind p ds es) h

-- of the elements that are open the last is the innermost
pub innermost : (levels : List Level) (last : Level) → 0 < length levels → last ≡ get_or levels (length levels - 1) last
    → scope (reverse levels) ≡ last.declarations ++ scope (reverse (take (length levels - 1) levels))
innermost levels last h e =
    let below : length levels - 1 < length levels = omega arith in
    let all : length levels ≤ (length levels - 1) + 1 = omega arith in
    let parts = sym (take_all (length levels - 1 + 1) levels all) ∙ take_more levels (length levels - 1) last below in
    let parted = parts ∙ ap (λ x. take (length levels - 1) levels ++ x ∷ []) (sym e) in
    ap (λ ls. scope (reverse ls)) parted ∙ ap scope (reverse-append (take (length levels - 1) levels) (last ∷ []))
