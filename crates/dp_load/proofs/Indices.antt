-- Elements of lists by index.
use Rattle.std.proofs.Common.{◌≡◌, ℕ, zero, suc, ◌+◌, ◌<◌, List, [], ◌∷◌, ◌++◌, length, take, drop, Some, refl, ap, sym, ◌∙◌, arith, add-one, add-zero}
use Rattle.std.proofs.Common.{zero-add}
use Rattle.std.specs.Prelude.{slice_get, slice_set}
use Rattle.std.proofs.lemmas.Option.{same_Some}
use Rattle.std.specs.List.{AllZip}
use Rattle.dp_model.specs.declared.env.Entry.{Entry}
use Rattle.dp_model.specs.Laws.Lists.{take_more}
use Rattle.dp_load.specs.Setup.{NodeFiles}
use Rattle.dp_load.specs.declared.nodes.How.{How}
use Rattle.dp_load.specs.Nodes.{Node, nodes_from, node_of}

-- ---- one element more

pub taken_more : {A : Type 0} (xs : List A) (k : ℕ) (x : A) → slice_get xs k ≡ Some x → take (k + 1) xs ≡ take k xs ++ x ∷ []
taken_more xs k x e = rw add-one (take_more xs k x e)

-- the list, split at an element
pub parted : {A : Type 0} (xs : List A) (k : ℕ) (x : A) → slice_get xs k ≡ Some x → xs ≡ take k xs ++ x ∷ drop (suc k) xs
parted [] k x e = absurd cc
parted (y ∷ ys) zero x e = let same : y ≡ x = cc in ap (λ z. z ∷ ys) same
parted (y ∷ ys) (suc k) x e = ap (λ zs. y ∷ zs) (parted ys k x e)

pub zipped_more : {A B : Type 0} (R : A → B → Type 0) (xs : List A) (ys : List B) (x : A) (y : B) → AllZip R xs ys → R x y →
    AllZip R (xs ++ x ∷ []) (ys ++ y ∷ [])
zipped_more R [] [] x y all r = (r, tt)
zipped_more R [] (b ∷ ys) x y all r = absurd all
zipped_more R (a ∷ xs) [] x y all r = absurd all
zipped_more R (a ∷ xs) (b ∷ ys) x y all r = (all.0, zipped_more R xs ys x y all.1 r)

-- ---- lists one after the other

pub in_front : {A : Type 0} (xs ys : List A) (k : ℕ) (x : A) → slice_get xs k ≡ Some x → slice_get (xs ++ ys) k ≡ Some x
in_front [] ys k x e = absurd cc
in_front (z ∷ zs) ys zero x e = e
in_front (z ∷ zs) ys (suc k) x e = in_front zs ys k x e

-- ---- numbered nodes

pub length-nodes_from : (how : How) (kind : ℕ → Entry) (k : ℕ) (files : List NodeFiles) → length (nodes_from how kind k files) ≡ length files
length-nodes_from how kind k [] = refl
length-nodes_from how kind k (f ∷ files) = ap suc (length-nodes_from how kind (k + 1) files)

pub nodes_from_at : (how : How) (kind : ℕ → Entry) (k : ℕ) (files : List NodeFiles) (i : ℕ) (f : NodeFiles) → slice_get files i ≡ Some f →
    slice_get (nodes_from how kind k files) i ≡ Some (node_of how (kind (k + i)) f)
nodes_from_at how kind k [] i f e = absurd cc
nodes_from_at how kind k (g ∷ files) zero f e =
    let same : g ≡ f = cc in rw (add-zero) (ap (λ h. Some (node_of how (kind k) h)) same)
nodes_from_at how kind k (g ∷ files) (suc i) f e =
    let next : (k + 1) + i ≡ k + suc i = omega arith in
    nodes_from_at how kind (k + 1) files i f e ∙ ap (λ n. Some (node_of how (kind n) f)) next

pub nodes_from_entry : (how : How) (kind : ℕ → Entry) (k : ℕ) (files : List NodeFiles) (i : ℕ) (node : Node) → slice_get (nodes_from how kind k files) i
    ≡ Some node → node.entry ≡ kind (k + i)
nodes_from_entry how kind k [] i node e = absurd cc
nodes_from_entry how kind k (g ∷ files) zero node e =
    let same : node_of how (kind k) g ≡ node = cc in rw add-zero (sym (ap (λ (n : Node). n.entry) same))
nodes_from_entry how kind k (g ∷ files) (suc i) node e =
    let next : (k + 1) + i ≡ k + suc i = omega arith in
    nodes_from_entry how kind (k + 1) files i node e ∙ ap kind next
