-- Taking a span out of the bytes that are not lent, and putting it back. Assumes `Logic`.
use Rattle.std.proofs.Common.{◌≡◌, ℕ, ◌+◌, ◌<◌, ◌≤◌, Bool, true, false, ◌||◌, List, [], ◌∷◌, ◌++◌, length, take, drop, refl, sym, ap, ◌∙◌, arith}
use lib.Seq.{length-take-le}
use seplogic.Ra.Ura.{Ura}
use base.Fraction.{full_share}
use base.Logic.{SProp, ent, sep, emp, guard, id⊢, never_e}
use base.Fml.{Fml, ftrue, fsep, feq}
use types.Logic.{Logic, sem}
use types.Kit.{‵, ◌⊛◌, ◌$◌, ◌∵◌, !, qed, by, move, use0, use1, use2, drop as let_go, split, fsplit, feq_i, fjoin, frame, rewrite, check, done}
use denote.Builtin.{u8}
use denote.Memory.{part_at}
use denote.RawPtr.{Ptr, block_ptr, null_ptr, block_of, count_of}
use denote.RawPtr.Bytes.{bytes, bytes_apart, bytes_whole}
use denote.Steps.{nothing}
use Rattle.core.proofs.slots.Runs.{unspliced, run_long}
use Rattle.dp_region.specs.Spans.{Span, covers, listed, is_lent, IsUnlent, with_span, without_span, Spaced, bytes_in, with_bytes}
use Rattle.dp_region.specs.Ownership.{run_owns, unless, unlent}
use Rattle.dp_region.specs.Laws.{covers-below, covers-above}
use Rattle.dp_region.proofs.Spans.{covers-in, is_lent-with, lent_without, unlent_without}

module _ {M : Type 1} {𝓤 : Ura M} (𝓛 : Logic 𝓤) (b : ℕ) where
  infix 26 ◌⊢◌
  infixr 35 ◌∗◌
  abbrev ⟦◌⟧ : Fml → SProp 𝓤
  ⟦ F ⟧ = sem 𝓛 F

  abbrev ◌∗◌ : SProp 𝓤 → SProp 𝓤 → SProp 𝓤
  X ∗ Y = sep 𝓤 X Y

  abbrev ◌⊢◌ : SProp 𝓤 → SProp 𝓤 → Type 1
  X ⊢ Y = ent 𝓤 X Y

  abbrev byte : ℕ → ℕ → Fml
  byte x o = part_at u8 full_share x b o

  -- `unlent` depends only on which of its bytes are lent
  stay : (ls ls' : List Span) (o k : ℕ) (xs : List ℕ) → ((j : ℕ) → k ≤ j → j < k + length xs → is_lent ls j ≡ is_lent ls' j) →
      ⟦ unlent ls b o k xs ⟧ ⊢ ⟦ unlent ls' b o k xs ⟧
  stay ls ls' o k [] same = id⊢ 𝓤 (emp 𝓤)
  stay ls ls' o k (x ∷ xs) same =
      qed 𝓛 (‵ (unless (is_lent ls k) (byte x o)) ∷ ‵ (unlent ls b (o + 1) (k + 1) xs) ∷ []) ∵
      rewrite ! 0 (λ (t : Bool). ‵ (unless t (byte x o))) (same k (omega arith) (omega arith)) refl $ frame ! $ by !
      (stay ls ls' (o + 1) (k + 1) xs (λ j p q. same j (omega arith) (omega arith)))

  all_out : (ls : List Span) (o k : ℕ) (xs : List ℕ) → IsUnlent ls k (length xs) → ⟦ unlent ls b o k xs ⟧ ⊢ ⟦ bytes full_share xs b o ⟧
  all_out ls o k [] free = id⊢ 𝓤 (emp 𝓤)
  all_out ls o k (x ∷ xs) free =
      qed 𝓛 (‵ (unless (is_lent ls k) (byte x o)) ∷ ‵ (unlent ls b (o + 1) (k + 1) xs) ∷ []) ∵
      rewrite ! 0 (λ (t : Bool). ‵ (unless t (byte x o))) (free k (omega arith) (omega arith)) refl $ frame ! $ by !
      (all_out ls (o + 1) (k + 1) xs (λ j p q. free j (omega arith) (omega arith)))

  all_in : (ls : List Span) (o k : ℕ) (xs : List ℕ) → IsUnlent ls k (length xs) → ⟦ bytes full_share xs b o ⟧ ⊢ ⟦ unlent ls b o k xs ⟧
  all_in ls o k [] free = id⊢ 𝓤 (emp 𝓤)
  all_in ls o k (x ∷ xs) free =
      qed 𝓛 (‵ (byte x o) ∷ ‵ (bytes full_share xs b (o + 1)) ∷ []) ∵
      rewrite ! 0 (λ (t : Bool). ‵ (unless t (byte x o))) (sym (free k (omega arith) (omega arith))) refl $ frame ! $ by !
      (all_in ls (o + 1) (k + 1) xs (λ j p q. free j (omega arith) (omega arith)))

  none_in : (ls : List Span) (o k : ℕ) (xs : List ℕ) → ((j : ℕ) → k ≤ j → j < k + length xs → is_lent ls j ≡ true) → emp 𝓤 ⊢ ⟦ unlent ls b o k xs ⟧
  none_in ls o k [] all = id⊢ 𝓤 (emp 𝓤)
  none_in ls o k (x ∷ xs) all =
      qed 𝓛 [] ∵ nothing ! $ rewrite ! 0 (λ (t : Bool). ‵ (unless t (byte x o))) (sym (all k (omega arith) (omega arith))) refl $
      frame ! $ by ! (none_in ls (o + 1) (k + 1) xs (λ j p q. all j (omega arith) (omega arith)))

  cut : (ls : List Span) (o k p j : ℕ) (xs ys : List ℕ) → p ≡ o + length xs → j ≡ k + length xs →
      ⟦ unlent ls b o k (xs ++ ys) ⟧ ⊢ ⟦ unlent ls b o k xs ⟧ ∗ ⟦ unlent ls b p j ys ⟧
  cut ls o k p j [] ys e f =
      let e' : o ≡ p = omega arith in let f' : k ≡ j = omega arith in
      qed 𝓛 (‵ (unlent ls b o k ys) ∷ []) ∵ rewrite ! 0 (λ (z : ℕ). ‵ (unlent ls b z k ys)) e' refl $ rewrite ! 0
      (λ (z : ℕ). ‵ (unlent ls b p z ys)) f' refl $ nothing ! $ done !
  cut ls o k p j (x ∷ xs) ys e f =
      qed 𝓛 (‵ (unless (is_lent ls k) (byte x o)) ∷ ‵ (unlent ls b (o + 1) (k + 1) (xs ++ ys)) ∷ []) ∵ move ! (1 ∷ []) $
      use1 𝓛 (‵ (unlent ls b (o + 1) (k + 1) xs) ⊛ ‵ (unlent ls b p j ys)) (cut ls (o + 1) (k + 1) p j xs ys (omega arith) (omega arith)) $ split ! $ move !
      (2 ∷ 0 ∷ []) $ fjoin ! $ done !

  glue : (ls : List Span) (o k p j : ℕ) (xs ys : List ℕ) → p ≡ o + length xs → j ≡ k + length xs →
      ⟦ unlent ls b o k xs ⟧ ∗ ⟦ unlent ls b p j ys ⟧ ⊢ ⟦ unlent ls b o k (xs ++ ys) ⟧
  glue ls o k p j [] ys e f =
      let e' : p ≡ o = omega arith in let f' : j ≡ k = omega arith in
      qed 𝓛 (‵ ftrue ∷ ‵ (unlent ls b p j ys) ∷ []) ∵ let_go ! $ rewrite ! 0 (λ (z : ℕ). ‵ (unlent ls b z j ys)) e' refl $ rewrite ! 0
      (λ (z : ℕ). ‵ (unlent ls b o z ys)) f' refl $ done !
  glue ls o k p j (x ∷ xs) ys e f =
      qed 𝓛 (‵ (unlent ls b o k (x ∷ xs)) ∷ ‵ (unlent ls b p j ys) ∷ []) ∵ fsplit ! $ frame ! $ by !
      (glue ls (o + 1) (k + 1) p j xs ys (omega arith) (omega arith))

  module _ (ls : List Span) (o : ℕ) (xs : List ℕ) (p n : ℕ) (fits : p + n ≤ length xs) where
    front : length (take p xs) ≡ p
    front = length-take-le p xs (omega arith)

    module _ (ls' : List Span) (same : (j : ℕ) → covers (p, n) j ≡ false → is_lent ls j ≡ is_lent ls' j) where
      before : (j : ℕ) → 0 ≤ j → j < 0 + length (take p xs) → is_lent ls j ≡ is_lent ls' j
      before j a q = let f = front in same j (covers-below (p, n) j (omega arith))

      after : (j : ℕ) → p + n ≤ j → j < p + n + length (drop (p + n) xs) → is_lent ls j ≡ is_lent ls' j
      after j a q = same j (covers-above (p, n) j a)

    -- taking a span out
    pub taken : IsUnlent ls p n → ⟦ unlent ls b o 0 xs ⟧ ⊢ ⟦ bytes full_share (bytes_in xs p n) b (o + p) ⟧ ∗ ⟦ unlent (with_span (p, n) ls) b o 0 xs ⟧
    taken free =
        let f = front in
        let mid = bytes_in xs p n in let rest = drop (p + n) xs in let ls' = with_span (p, n) ls in
        let long : length mid ≡ n = run_long xs p n fits in
        let same = λ (j : ℕ) (out : covers (p, n) j ≡ false). sym (is_lent-with (p, n) ls j ∙ ap (λ (t : Bool). t || is_lent ls j) out) in
        qed 𝓛 (‵ (unlent ls b o 0 xs) ∷ []) ∵ rewrite ! 0 (λ (l : List ℕ). ‵ (unlent ls b o 0 l)) (sym (unspliced xs p n)) refl $
        use1 𝓛 (‵ (unlent ls b o 0 (take p xs)) ⊛ ‵ (unlent ls b (o + p) p (mid ++ rest)))
        (cut ls o 0 (o + p) p (take p xs) (mid ++ rest) (omega arith) (omega arith)) $ split ! $
        use1 𝓛 (‵ (unlent ls' b o 0 (take p xs))) (stay ls ls' o 0 (take p xs) (before ls' same)) $ move ! (1 ∷ []) $
        use1 𝓛 (‵ (unlent ls b (o + p) p mid) ⊛ ‵ (unlent ls b (o + p + n) (p + n) rest))
        (cut ls (o + p) p (o + p + n) (p + n) mid rest (omega arith) (omega arith)) $ split ! $
        use1 𝓛 (‵ (bytes full_share mid b (o + p))) (all_out ls (o + p) p mid (λ j a q. free j a (omega arith))) $ frame ! $
        use1 𝓛 (‵ (unlent ls' b (o + p + n) (p + n) rest)) (stay ls ls' (o + p + n) (p + n) rest (after ls' same)) $
        use0 𝓛 (‵ (unlent ls' b (o + p) p mid)) (none_in ls' (o + p) p mid (λ j a q. is_lent-with (p, n) ls j
        ∙ ap (λ (t : Bool). t || is_lent ls j) (covers-in (p, n) j a (omega arith)))) $
        use2 𝓛 (‵ (unlent ls' b (o + p) p (mid ++ rest))) (glue ls' (o + p) p (o + p + n) (p + n) mid rest (omega arith) (omega arith)) $ move ! (1 ∷ 0 ∷ []) $
        use2 𝓛 (‵ (unlent ls' b o 0 (take p xs ++ (mid ++ rest)))) (glue ls' o 0 (o + p) p (take p xs) (mid ++ rest) (omega arith) (omega arith)) $
        rewrite ! 0 (λ (l : List ℕ). ‵ (unlent ls' b o 0 l)) (unspliced xs p n) refl $ done !

    -- putting it back with the bytes ws
    pub given_back : (ws : List ℕ) (low high : ℕ) → Spaced low high ls → listed (p, n) ls ≡ true → length ws ≡ n
        → ⟦ bytes full_share ws b (o + p) ⟧ ∗ ⟦ unlent ls b o 0 xs ⟧ ⊢ ⟦ unlent (without_span (p, n) ls) b o 0 (with_bytes xs p ws) ⟧
    given_back ws low high t out long =
        let f = front in
        let mid = bytes_in xs p n in let rest = drop (p + n) xs in let ls' = without_span (p, n) ls in
        let old : length mid ≡ n = run_long xs p n fits in
        let same = λ (j : ℕ) (off : covers (p, n) j ≡ false). sym (lent_without (p, n) ls j off) in
        qed 𝓛 (‵ (bytes full_share ws b (o + p)) ∷ ‵ (unlent ls b o 0 xs) ∷ []) ∵
        use1 𝓛 (‵ (unlent ls' b (o + p) p ws)) (all_in ls' (o + p) p ws (λ j a q. unlent_without (p, n) ls low high t out j a (omega arith))) $ move !
        (1 ∷ []) $
        rewrite ! 0 (λ (l : List ℕ). ‵ (unlent ls b o 0 l)) (sym (unspliced xs p n)) refl $
        use1 𝓛 (‵ (unlent ls b o 0 (take p xs)) ⊛ ‵ (unlent ls b (o + p) p (mid ++ rest)))
        (cut ls o 0 (o + p) p (take p xs) (mid ++ rest) (omega arith) (omega arith)) $ split ! $
        use1 𝓛 (‵ (unlent ls' b o 0 (take p xs))) (stay ls ls' o 0 (take p xs) (before ls' same)) $ move ! (1 ∷ []) $
        use1 𝓛 (‵ (unlent ls b (o + p) p mid) ⊛ ‵ (unlent ls b (o + p + n) (p + n) rest))
        (cut ls (o + p) p (o + p + n) (p + n) mid rest (omega arith) (omega arith)) $ split ! $ let_go ! $
        use1 𝓛 (‵ (unlent ls' b (o + p + n) (p + n) rest)) (stay ls ls' (o + p + n) (p + n) rest (after ls' same)) $ move ! (2 ∷ 0 ∷ []) $
        use2 𝓛 (‵ (unlent ls' b (o + p) p (ws ++ rest))) (glue ls' (o + p) p (o + p + n) (p + n) ws rest (omega arith) (omega arith)) $ move ! (1 ∷ 0 ∷ []) $
        use2 𝓛 (‵ (unlent ls' b o 0 (take p xs ++ (ws ++ rest)))) (glue ls' o 0 (o + p) p (take p xs) (ws ++ rest) (omega arith) (omega arith)) $
        rewrite ! 0 (λ (m : ℕ). ‵ (unlent ls' b o 0 (take p xs ++ (ws ++ drop (p + m) xs)))) (sym long) refl $ done !

  -- with nothing lent, `unlent` is all the bytes
  pub whole_out : (o : ℕ) (xs : List ℕ) → ⟦ unlent [] b o 0 xs ⟧ ⊢ ⟦ bytes full_share xs b o ⟧
  whole_out o xs = all_out [] o 0 xs (λ j p q. refl)

  pub whole_in : (o : ℕ) (xs : List ℕ) → ⟦ bytes full_share xs b o ⟧ ⊢ ⟦ unlent [] b o 0 xs ⟧
  whole_in o xs = all_in [] o 0 xs (λ j p q. refl)

module _ {M : Type 1} {𝓤 : Ura M} (𝓛 : Logic 𝓤) where
  -- a run is its bytes, each by itself
  pub run_out : (p : Ptr) (xs : List ℕ) → ent 𝓤 (sem 𝓛 (run_owns p xs))
      (guard 𝓤 (p ≡ block_ptr (block_of p) (count_of p)) (sem 𝓛 (bytes full_share xs (block_of p) (count_of p))))
  run_out null_ptr xs = never_e 𝓤 _
  run_out (block_ptr b o) xs =
      qed 𝓛 (‵ (run_owns (block_ptr b o) xs) ∷ []) ∵ use1 𝓛 (‵ (fsep (feq ℕ (length xs) (length xs)) (bytes full_share xs b o)))
      (bytes_apart 𝓛 full_share (length xs) xs b o) $
      fsplit ! $ let_go ! $ check ! refl $ done !

  pub run_in : (b o : ℕ) (xs : List ℕ) → ent 𝓤 (sem 𝓛 (bytes full_share xs b o)) (sem 𝓛 (run_owns (block_ptr b o) xs))
  run_in b o xs =
      qed 𝓛 (‵ (bytes full_share xs b o) ∷ []) ∵ feq_i ! ℕ (length xs) (length xs) refl $ fjoin ! $
      use1 𝓛 (‵ (run_owns (block_ptr b o) xs)) (bytes_whole 𝓛 full_share (length xs) xs b o) $ done !
