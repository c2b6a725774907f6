-- Runs on tables that are alike at the nodes that the run looks at, and what they remember.
use Rattle.common_laws.proofs.Base.{List, [], ◌∷◌, List-as-Memᴰ, List-Memᴰ-head, List-Memᴰ-tail, none, ◌≡◌, refl, sym, ◌∙◌, ap, ap₂, ℕ, zero, suc, ◌<◌, ℕ_discrete, dec_lt, arith}
use Rattle.common_laws.proofs.Base.{length, replicate, set_out}
use Rattle.cost.specs.Cost.{lesser}
use Rattle.plans.specs.System.{Way, Visit}
use Rattle.plans.specs.Sweep.{at, least, Rule, renew, lower, sweep, sweeps, Rests, Settles}
use Rattle.plans.specs.Idle.{Needs}
use Rattle.plans.specs.Continued.{Alike, Looks, Reads, AlikeSettles, AlikeTraces}
use Rattle.plans.specs.Trace.{first_place, mark_of, Trace, trace_visit, trace_sweep, trace_sweeps, untraced}
use Rattle.plans.proofs.Numbers.{at_set_same, at_ext}
use Rattle.plans.proofs.Lowered.{way_same, lower-here, lower-past}
use Rattle.plans.proofs.Kept.{Stores, rule-length, rule-other, sweep-length, sweep-other}

least-same : (xs ys : List ℕ) (ws : List Way) → ((w : Way) → List-as-Memᴰ w ws → (n : ℕ) → List-as-Memᴰ n w.needs → at xs n ≡ at ys n) → least xs ws ≡ least ys ws
unfolding least
least-same xs ys [] h = refl
least-same xs ys (w ∷ ws) h =
    ap₂ lesser (way_same xs ys w (h w (List-Memᴰ-head refl))) (least-same xs ys ws (λ u m. h u (List-Memᴰ-tail m)))

visit-same : (xs ys : List ℕ) (v : Visit) → ((n : ℕ) → Needs v n → at xs n ≡ at ys n) → least xs v.ways ≡ least ys v.ways
visit-same xs ys v h = least-same xs ys v.ways (λ w m n i. h n (record { way = w; listed = m; among = i }))

pub lower-reads : Reads lower
lower-reads xs ys v long own needs = place (dec_lt v.node (length xs))
  where
    place : Dec (v.node < length xs) → at (lower xs v) v.node ≡ at (lower ys v) v.node
    place (yes b) =
        lower-here xs v b ∙ ap₂ lesser own (visit-same xs ys v needs) ∙ sym (lower-here ys v (rw (← long) b))
    place (no b) = rw (lower-past xs v (omega arith), lower-past ys v (omega (arith, long))) own

pub renew-reads : Reads renew
unfolding renew
renew-reads xs ys v long own needs = place (dec_lt v.node (length xs))
  where
    place : Dec (v.node < length xs) → at (renew xs v) v.node ≡ at (renew ys v) v.node
    place (yes b) =
        at_set_same xs v.node (least xs v.ways) b
        ∙ visit-same xs ys v needs
        ∙ sym (at_set_same ys v.node (least ys v.ways) (rw (← long) b))
    place (no b) = rw (set_out xs v.node (least xs v.ways) (omega arith), set_out ys v.node (least ys v.ways) (omega (arith, long))) own

module _ (rule : Rule) (stores : Stores rule) (reads : Reads rule) (P : ℕ → Type 0) where
  visit-alike : {xs ys : List ℕ} (v : Visit) → P v.node → ((n : ℕ) → Needs v n → P n) → Alike P xs ys → Alike P (rule xs v) (rule ys v)
  visit-alike {xs} {ys} v own needs a =
      record {
        long = rule-length rule stores xs v ∙ a.long ∙ sym (rule-length rule stores ys v);
        same = λ n p. place n p (ℕ_discrete v.node n);
      }
    where
      place : (n : ℕ) → P n → Dec (v.node ≡ n) → at (rule xs v) n ≡ at (rule ys v) n
      place n p (yes e) = rw (← e) (reads xs ys v a.long (a.same v.node own) (λ m d. a.same m (needs m d)))
      place n p (no e) = rule-other rule stores xs v n e ∙ a.same n p ∙ sym (rule-other rule stores ys v n e)

  sweep-alike : {xs ys : List ℕ} (vs : List Visit) → Looks P vs → Alike P xs ys → Alike P (sweep rule vs xs) (sweep rule vs ys)
  unfolding sweep
  sweep-alike [] l a = a
  sweep-alike {xs} {ys} (v ∷ vs) l a =
      sweep-alike {xs = rule xs v} {ys = rule ys v} vs
      (record { visits = λ u m. l.visits u (List-Memᴰ-tail m); needs = λ u m. l.needs u (List-Memᴰ-tail m) })
      (visit-alike v (l.visits v (List-Memᴰ-head refl)) (l.needs v (List-Memᴰ-head refl)) a)

  sweeps-alike : {xs ys : List ℕ} (vs : List Visit) → Looks P vs → (k : ℕ) → Alike P xs ys → Alike P (sweeps rule vs k xs) (sweeps rule vs k ys)
  unfolding sweeps
  sweeps-alike vs l zero a = a
  sweeps-alike {xs} {ys} vs l (suc k) a =
      sweeps-alike {xs = sweep rule vs xs} {ys = sweep rule vs ys} vs l k (sweep-alike vs l a)

  alike_sym : {xs ys : List ℕ} → Alike P xs ys → Alike P ys xs
  alike_sym a = record { long = sym a.long; same = λ n p. sym (a.same n p) }

  -- A sweep that changes nothing of the one changes nothing of the other: where it could, they are alike.
  pub rests-alike : {xs ys : List ℕ} (vs : List Visit) → Looks P vs → Alike P xs ys → Rests rule vs xs → Rests rule vs ys
  rests-alike {xs} {ys} vs l a e = at_ext (sweep rule vs ys) ys (sweep-length rule stores vs ys) (λ n. place n (visited? vs n))
    where
      visited? : (us : List Visit) (n : ℕ) → Dec ((v : Visit) × List-as-Memᴰ v us × (v.node ≡ n))
      visited? [] n = no (λ t. elim t.1 [ ])
      visited? (u ∷ us) n = split (ℕ_discrete u.node n) (visited? us n)
        where
          split : Dec (u.node ≡ n) → Dec ((v : Visit) × List-as-Memᴰ v us × (v.node ≡ n)) → Dec ((v : Visit) × List-as-Memᴰ v (u ∷ us) × (v.node ≡ n))
          split (yes q) r = yes (u, List-Memᴰ-head refl, q)
          split (no q) (yes t) = yes (t.0, List-Memᴰ-tail t.1, t.2)
          split (no q) (no t) = no (λ s. neither s.0 s.1 s.2)
            where
              neither : (v : Visit) → List-as-Memᴰ v (u ∷ us) → v.node ≡ n → ⊥
              neither v (List-Memᴰ-head f) g = q (ap (λ (w : Visit). w.node) (sym f) ∙ g)
              neither v (List-Memᴰ-tail m) g = t (v, m, g)

      place : (n : ℕ) → Dec ((v : Visit) × List-as-Memᴰ v vs × (v.node ≡ n)) → at (sweep rule vs ys) n ≡ at ys n
      place n (yes t) =
          let p : P n = rw t.2 at (l.visits t.0 t.1) in
          sym ((sweep-alike vs l a).same n p) ∙ ap (λ (zs : List ℕ). at zs n) e ∙ a.same n p
      place n (no t) = sweep-other rule stores vs ys n (λ s. t (s.visit, s.listed, s.same))

pub alike-settles : (rule : Rule) → Stores rule → Reads rule → (P : ℕ → Type 0) → AlikeSettles rule P
alike-settles rule stores reads P vs xs ys zs k l a s = (sweeps rule vs s.changes ys, settled, end)
  where
    end : Alike P zs (sweeps rule vs s.changes ys)
    end = rw s.reached at (sweeps-alike rule stores reads P vs l s.changes a)

    settled : Settles rule vs ys k (sweeps rule vs s.changes ys)
    settled =
        record {
          changes = s.changes;
          counted = s.counted;
          reached = refl;
          rests = rests-alike rule stores reads P vs l end s.rests;
          changed = λ i h e.
              s.changed i h (rests-alike rule stores reads P vs l (alike_sym rule stores reads P (sweeps-alike rule stores reads P vs l i a)) e);
        }

-- ---- and what they remember

first_same : (xs ys : List ℕ) (ws : List Way) → ((w : Way) → List-as-Memᴰ w ws → (n : ℕ) → List-as-Memᴰ n w.needs → at xs n ≡ at ys n) → first_place xs ws ≡ first_place ys ws
unfolding first_place
first_same xs ys [] h = refl
first_same xs ys (w ∷ ws) h =
    let rest : (u : Way) → List-as-Memᴰ u ws → (n : ℕ) → List-as-Memᴰ n u.needs → at xs n ≡ at ys n = λ u m. h u (List-Memᴰ-tail m) in
    rw (way_same xs ys w (h w (List-Memᴰ-head refl)), least-same xs ys ws rest, first_same xs ys ws rest) refl

-- Numbers that are alike, and the same marks at the same time.
record Remember (P : ℕ → Type 0) (t u : Trace) : Type 0 where
  alike : Alike P t.numbers u.numbers
  marks : t.marks ≡ u.marks
  time : t.time ≡ u.time

module _ (rule : Rule) (stores : Stores rule) (reads : Reads rule) (P : ℕ → Type 0) where
  visit_remembers : (t u : Trace) (v : Visit) → P v.node → ((n : ℕ) → Needs v n → P n) → Remember P t u → Remember P (trace_visit rule t v) (trace_visit rule u v)
  unfolding trace_visit mark_of
  visit_remembers t u v own needs a =
      let same : (n : ℕ) → Needs v n → at t.numbers n ≡ at u.numbers n = λ n d. a.alike.same n (needs n d) in
      record {
        alike = visit-alike rule stores reads P v own needs a.alike;
        marks =
            rw (
              visit-same t.numbers u.numbers v same,
              first_same t.numbers u.numbers v.ways (λ w m n i. same n (record { way = w; listed = m; among = i })),
              a.alike.same v.node own,
              a.marks,
              a.time,
            )
            refl;
        time = ap suc a.time;
      }

  sweep_remembers : (vs : List Visit) (t u : Trace) → Looks P vs → Remember P t u → Remember P (trace_sweep rule vs t) (trace_sweep rule vs u)
  unfolding trace_sweep
  sweep_remembers [] t u l a = a
  sweep_remembers (v ∷ vs) t u l a =
      sweep_remembers vs (trace_visit rule t v) (trace_visit rule u v)
      (record { visits = λ w m. l.visits w (List-Memᴰ-tail m); needs = λ w m. l.needs w (List-Memᴰ-tail m) })
      (visit_remembers t u v (l.visits v (List-Memᴰ-head refl)) (l.needs v (List-Memᴰ-head refl)) a)

  sweeps_remember : (vs : List Visit) (k : ℕ) (t u : Trace) → Looks P vs → Remember P t u → Remember P (trace_sweeps rule vs k t) (trace_sweeps rule vs k u)
  unfolding trace_sweeps
  sweeps_remember vs zero t u l a = a
  sweeps_remember vs (suc k) t u l a = sweeps_remember vs k (trace_sweep rule vs t) (trace_sweep rule vs u) l (sweep_remembers vs t u l a)

pub alike_traces : (rule : Rule) → Stores rule → Reads rule → (P : ℕ → Type 0) → AlikeTraces rule P
unfolding untraced
alike_traces rule stores reads P vs k xs ys l a =
    let r : Remember P (trace_sweeps rule vs k (untraced xs)) (trace_sweeps rule vs k (untraced ys)) =
    sweeps_remember rule stores reads P vs k (untraced xs) (untraced ys) l
    (record { alike = a; marks = ap (λ (n : ℕ). replicate n none) a.long; time = refl }) in
    (r.marks, r.time)
