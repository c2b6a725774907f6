-- A text in front of another: where every line of the first is ended, the lines of both are those of the one and of the other.
use Rattle.common_laws.proofs.Base.{Bool, true, false, List, [], ◌∷◌, ◌++◌, Option, none, some, ◌≡◌, refl, sym, ap, ◌∙◌, ℕ, eqb, eq-eqb}
use Rattle.reading.specs.Each.{Each}
use Rattle.text.specs.Lines.{cut, split, fields, unended, ended, lines}

-- ---- parts put together

-- The last part of some and the first of others are one.
unfoldable glue : List (List ℕ) → List (List ℕ) → List (List ℕ)
glue [] qs = qs
glue (p ∷ []) [] = p ∷ []
glue (p ∷ []) (q ∷ qs) = (p ++ q) ∷ qs
glue (p ∷ (x ∷ ps)) qs = p ∷ glue (x ∷ ps) qs

-- A text has a first part.
record Parts (ps : List (List ℕ)) : Type 0 where
  first : List ℕ
  rest : List (List ℕ)
  are : ps ≡ first ∷ rest

cut_parts : (t : Bool) (b : ℕ) (ps : List (List ℕ)) → Parts (cut t b ps)
unfolding cut
cut_parts true b ps = record { first = []; rest = ps; are = refl }
cut_parts false b [] = record { first = b ∷ []; rest = []; are = refl }
cut_parts false b (p ∷ ps) = record { first = b ∷ p; rest = ps; are = refl }

split_parts : (m : ℕ) (s : List ℕ) → Parts (split m s)
unfolding split
split_parts m [] = record { first = []; rest = []; are = refl }
split_parts m (b ∷ s) = cut_parts (eqb b m) b (split m s)

glue-none : (qs : List (List ℕ)) → Parts qs → glue ([] ∷ []) qs ≡ qs
unfolding glue
glue-none qs h = rw h.are

glue-cut : (t : Bool) (b : ℕ) (ps qs : List (List ℕ)) → Parts ps → Parts qs → cut t b (glue ps qs) ≡ glue (cut t b ps) qs
unfolding glue cut
glue-cut true b ps qs h k = rw h.are
glue-cut false b ps qs h k = rw (h.are, k.are) (go h.rest)
  where
    go : (xs : List (List ℕ)) → cut false b (glue (h.first ∷ xs) (k.first ∷ k.rest)) ≡ glue (cut false b (h.first ∷ xs)) (k.first ∷ k.rest)
    go [] = refl
    go (x ∷ xs) = refl

split_append : (m : ℕ) (s t : List ℕ) → split m (s ++ t) ≡ glue (split m s) (split m t)
unfolding split
split_append m [] t = sym (glue-none (split m t) (split_parts m t))
split_append m (b ∷ s) t =
    ap (cut (eqb b m) b) (split_append m s t) ∙ glue-cut (eqb b m) b (split m s) (split m t) (split_parts m s) (split_parts m t)

-- ---- lines that are ended

abbrev pub Good : {A : Type 0} → Option A → Type 0
Good none = ⊥
Good (some a) = Unit {0}

ended-cons : (p : List ℕ) (ps : List (List ℕ)) → Parts ps → ended (p ∷ ps) ≡ some (fields p) ∷ ended ps
unfolding ended
ended-cons p ps h = rw h.are

glue-parts : (p : List ℕ) (ps qs : List (List ℕ)) → Parts (glue (p ∷ ps) qs)
unfolding glue
glue-parts p [] [] = record { first = p; rest = []; are = refl }
glue-parts p [] (q ∷ qs) = record { first = p ++ q; rest = qs; are = refl }
glue-parts p (x ∷ ps) qs = record { first = p; rest = glue (x ∷ ps) qs; are = refl }

ended-glue : (ps qs : List (List ℕ)) → Each Good (ended ps) → ended (glue ps qs) ≡ ended ps ++ ended qs
unfolding glue ended unended Each
ended-glue [] qs h = refl
ended-glue ([] ∷ []) [] h = refl
ended-glue ([] ∷ []) (q ∷ qs) h = refl
ended-glue ((b ∷ p) ∷ []) qs h = absurd h.0
ended-glue (p ∷ (x ∷ ps)) qs h =
    ended-cons p (glue (x ∷ ps) qs) (glue-parts x ps qs)
    ∙ ap (λ (ls : List (Option (List (List ℕ)))). some (fields p) ∷ ls) (ended-glue (x ∷ ps) qs h.1)

pub lines-append : (s t : List ℕ) → Each Good (lines s) → lines (s ++ t) ≡ lines s ++ lines t
unfolding lines
lines-append s t h = ap ended (split_append 10 s t) ∙ ended-glue (split 10 s) (split 10 t) h

-- ---- a part without a mark

abbrev pub Unmarked : ℕ → List ℕ → Type 0
Unmarked m s = Each (λ (b : ℕ). eqb b m ≡ false) s

pub split_marked : (m : ℕ) (p t : List ℕ) → Unmarked m p → split m (p ++ (m ∷ t)) ≡ p ∷ split m t
unfolding split cut Each
split_marked m [] t h = rw (eq-eqb m m refl)
split_marked m (b ∷ p) t h = rw (h.0, split_marked m p t h.1)

pub split_whole : (m : ℕ) (p : List ℕ) → Unmarked m p → split m p ≡ p ∷ []
unfolding split cut Each
split_whole m [] h = refl
split_whole m (b ∷ p) h = rw (h.0, split_whole m p h.1)

-- A line in front of others.
pub line_first : (p t : List ℕ) → Unmarked 10 p → lines (p ++ (10 ∷ t)) ≡ some (fields p) ∷ lines t
unfolding lines
line_first p t h = ap ended (split_marked 10 p t h) ∙ ended-cons p (split 10 t) (split_parts 10 t)
