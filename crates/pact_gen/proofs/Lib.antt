mod RowsSoFar
mod TextsOfNumbers
mod WorkedRows
