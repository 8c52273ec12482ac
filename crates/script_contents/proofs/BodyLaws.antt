-- The body of a definition, where a walk under its parameters begins.
use Rattle.script_contents.proofs.Prelude.{◌≡◌, ℕ, List, length, ◌∙◌, ap, slice_get, Tree, body_at, body_under, read_by, body_of, parameters, kind_class, kind_network, Name, first_of, Scope, Kind, Meanings, Walked, standing}

pub body_is : (m : Meanings) (d : ℕ) (params : List Name) (t : Tree) (w : Walked) (kind : Kind) (scope : Scope) → scope ≡ parameters 0 params
    → w ≡ standing m.names.now m.kinds.now scope (length params) → kind.class ≡ kind_class (slice_get m.kinds.now d)
    → kind.network ≡ kind_network (slice_get m.kinds.now d) → body_at w kind t ≡ body_under m d params t
body_is m d params t w kind scope bound begun class network =
    ap (λ z. body_at z kind t) begun
    ∙ (λ j. body_of (first_of m.names.now) m.kinds.now (class j) (network j) (read_by m t) (length params) (bound j))
