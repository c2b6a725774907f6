-- What is printed of files that were loaded, from what was loaded and what a call puts into a buffer.
use Rattle.common_laws.proofs.Base.{Bool, true, false, ◌||◌, List, [], ◌∷◌, ◌⊎◌, inl, inr, ◌≡◌, refl, ℕ, ◌≤◌, ◌<◌, arith, ltb, length, take, length-take-le, lt-ltb}
use Rattle.std.specs.Prelude.{Option, Some, None}
use Rattle.sizes.specs.Sizes as Size
use Rattle.reading.specs.Choice.{pick}
use Rattle.reading.specs.Numbers as No
use Rattle.reading.specs.Refusal.{Read, ◌>>◌, weigh}
use Rattle.text.specs.Bytes.{bytes}
use Rattle.writer.specs.Buffer.{shown, Prints}
use Rattle.writer.specs.Put.{Put}
use Rattle.writer.proofs.Buffer.{put-prints}
use Rattle.files.specs.Loads.{Within, Seen}
use Rattle.files.specs.Output.{unreadable, of_file, of_files, Outputs, long_refused, OneLongRefused, LongRefused, PrintsFile, PrintsFiles}

pub seen : (l : Option ℕ) (buffer : List ℕ) → Size.text_bytes < length buffer → Within l buffer → Seen l buffer
seen (Some n) buffer long w = record { within = w; long = λ e. omega arith }
seen None buffer long w = record { within = tt; long = tt }

-- ---- what stands in the buffer

pub prints-outputs : {space said : ℕ} {bs before after : List ℕ} → Prints space bs before after said → Outputs space bs after said
prints-outputs p = record { answers = p.answers; prints = p.prints; long = p.long }

-- Bytes put into the front of a buffer that has room for them.
pub put-outputs : {space said : ℕ} {bs before after : List ℕ} → space ≡ length before → length bs ≤ space → Put 0 bs before after said
    → Outputs space bs after said
put-outputs e h p = prints-outputs (put-prints p (omega arith) e)

unreadable-outputs : {space said : ℕ} {before after : List ℕ} → space ≡ length before → 11 ≤ space → Put 0 unreadable before after said
    → Outputs space unreadable after said
unfolding unreadable bytes
unreadable-outputs e h p = put-outputs e (omega arith) p

-- ---- a text that is too long, by the first check of every program

pub long-shown : (test : Bool) → test ≡ true → (r : Read (List ℕ)) → shown (weigh 0 ((No.text_long, test) ∷ []) >> r) ≡ long_refused
unfolding shown weigh pick ◌>>◌
long-shown test e r = rw e refl

pub either-long : (lib net : List ℕ) → (Size.text_bytes < length lib) ⊎ (Size.text_bytes < length net)
    → (ltb Size.text_bytes (length lib) || ltb Size.text_bytes (length net)) ≡ true
either-long lib net (inl h) = rw (lt-ltb Size.text_bytes (length lib) h) refl
either-long lib net (inr h) = rw (lt-ltb Size.text_bytes (length net) h) (or-true (ltb Size.text_bytes (length lib)))
  where
    or-true : (a : Bool) → (a || true) ≡ true
    or-true true = refl
    or-true false = refl

-- ---- one file

module _ (print : List ℕ → List ℕ) (l : Option ℕ) (text : List ℕ) where
  pub file_unread : {space said : ℕ} {before after : List ℕ} → l ≡ None → space ≡ length before → 11 ≤ space → Put 0 unreadable before after said
      → PrintsFile space print l text after said
  unfolding of_file
  file_unread e s h p = rw e (record { outputs = unreadable-outputs s h p; cut = λ f. absurd f })

  pub file_read : {space said a : ℕ} {front after : List ℕ} → OneLongRefused print → Size.text_bytes < length text → l ≡ Some a → front ≡ take a text
      → Outputs space (print front) after said → PrintsFile space print l text after said
  unfolding of_file
  file_read {a = a} long room e f o =
      rw e
      (record {
        outputs = rw (← f) o;
        cut = λ z. long (take a text) (omega (arith, length-take-le a text (omega arith)));
      })

-- ---- two files

module _ (print : List ℕ → List ℕ → List ℕ) (l : Option ℕ) (lib : List ℕ) (n : Option ℕ) (net : List ℕ) where
  pub library-unread : {space said : ℕ} {before after : List ℕ} → l ≡ None → space ≡ length before → 11 ≤ space → Put 0 unreadable before after said
      → PrintsFiles space print l lib n net after said
  unfolding of_files of_file
  library-unread e s h p =
      rw e (record { outputs = unreadable-outputs s h p; cut_library = λ r f. absurd f; cut_netlist = λ r f. absurd (r refl) })

  pub netlist-unread : {space said a : ℕ} {before after : List ℕ} → l ≡ Some a → n ≡ None → space ≡ length before → 11 ≤ space
      → Put 0 unreadable before after said → PrintsFiles space print l lib n net after said
  unfolding of_files of_file
  netlist-unread e f s h p =
      rw (e, f) (record { outputs = unreadable-outputs s h p; cut_library = λ r g. absurd (r refl); cut_netlist = λ r g. absurd g })

  pub both_read : {space said a b : ℕ} {lib_front net_front after : List ℕ} → LongRefused print → Size.text_bytes < length lib → Size.text_bytes < length net
      → l ≡ Some a → n ≡ Some b → lib_front ≡ take a lib → net_front ≡ take b net
      → Outputs space (print lib_front net_front) after said → PrintsFiles space print l lib n net after said
  unfolding of_files of_file
  both_read {a = a} {b = b} long lib_room net_room e f g h o =
      rw (e, f)
      (record {
        outputs = rw (← g, ← h) o;
        cut_library = λ r z. long (take a lib) (take b net) (inl (omega (arith, length-take-le a lib (omega arith))));
        cut_netlist = λ r z. long (take a lib) (take b net) (inr (omega (arith, length-take-le b net (omega arith))));
      })
