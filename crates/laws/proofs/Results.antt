-- What the exit of a `?` returns: the error that the call returned, where no conversion changes it.
use Rattle.std.specs.Prelude.{Result, Err, IsErrAnd}
use Rattle.std.proofs.lemmas.Result.{err_from_is_err_and}
use mathlib.Core.Path.{◌≡◌, ap, ◌∙◌}

pub passed_on : {T E : Type 0} (r : Result T E) (e : E) → IsErrAnd r (λ (x : E). x ≡ e) → r ≡ Err e
passed_on r e h =
    let exit = err_from_is_err_and r h in
    exit.1 ∙ ap Err exit.2
