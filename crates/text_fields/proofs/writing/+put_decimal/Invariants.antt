-- `text_fields::writing::put_decimal`: the measure is the number of places.
use Rattle.text_fields.proofs.writing.+put_decimal.Given as goal

abbrev pub decreases-put_decimal : goal.decreases-put_decimal
decreases-put_decimal l = l.places
