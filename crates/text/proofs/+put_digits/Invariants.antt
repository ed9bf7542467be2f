use Rattle.text.proofs.+put_digits.Given as goal

-- the number itself falls
abbrev pub decreases-put_digits : goal.decreases-put_digits
decreases-put_digits l = l.n
