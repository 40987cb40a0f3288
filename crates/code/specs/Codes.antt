-- The code that a value of the type `Code` stands for.
use Rattle.spec.specs.Code.{code}
use Rattle.spec.specs.Code as definitions
use Rattle.code.specs.declared.shape.Code.{Code}

abbrev pub code_of : Code → definitions.Code
code_of c = code c.m c.arikan c.map.now c.pairs.now
