use Rattle.cm_wit.proofs.Around.{interfaces, own_package, methods, statics}
use Rattle.cm_wit.proofs.laws.names_are_told_by_their_parts.Goals as goal

pub returns-clause-interfaces : goal.returns-clause-interfaces
returns-clause-interfaces c = interfaces

pub returns-clause-methods : goal.returns-clause-methods
returns-clause-methods c = methods

pub returns-clause-statics : goal.returns-clause-statics
returns-clause-statics c = statics

pub returns-clause-own_package : goal.returns-clause-own_package
returns-clause-own_package c = own_package
