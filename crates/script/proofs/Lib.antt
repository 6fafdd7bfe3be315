mod Digits
mod HexFits
mod Networks
mod Separators
